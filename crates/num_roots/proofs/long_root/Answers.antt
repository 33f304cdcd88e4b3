-- `num_roots::long_root` meets its contract: `joined` of specs/Halves.antt puts the root of the upper half and the quotient together. Assumes nothing.
use borrow.Author.Rules.{rules}
use Rattle.num_roots.proofs.Halves.{joined}
use native.Mathlib.Nat.{mod-lt, div-add-mod, mul_comm}
use native.Mathlib.Omega.{arith}
use Prim.Native.Nat.{ℕ, ◌<◌, ◌+◌, ◌*◌, ◌/◌, ◌%◌}
use mathlib.Core.Path.{◌≡◌, sym, ap, ◌∙◌}
use Rattle.num_roots.proofs.long_root.Goals as goal

split : (a b : ℕ) → a ≡ a / b * b + a % b
split a b = sym (ap (λ (x : ℕ). x + a % b) (mul_comm (a / b) b) ∙ div-add-mod a b)

pub overflow_mul-a-then-q-lt2147483648 : goal.overflow_mul-a-then-q-lt2147483648
overflow_mul-a-then-q-lt2147483648 c =
    let r = c.whole_root-top.result in
    let h2 : 0 < 2 * r.root = omega arith in
    record { fits = omega (arith, mod-lt (r.rest * 0x400_0000 + c.args.m % 1024 * 0x1_0000) h2, c.whole_root-top.ensures.fact_2) }

pub joined_root-requires : goal.joined_root-requires
joined_root-requires c =
    let m = c.args.m in
    let r = c.whole_root-top.result in
    let a = r.rest * 0x400_0000 + m % 1024 * 0x1_0000 in
    let h2 : 0 < 2 * r.root = omega arith in (
      omega (arith, c.whole_root-top.ensures.fact_2),
      search rules,
      omega (arith, mod-lt a h2, c.whole_root-top.ensures.fact_2),
      joined m r.root r.rest (a / (2 * r.root)) (a % (2 * r.root)) c.whole_root-top.ensures.fact_1.sum (split a (2 * r.root)),
    )
