-- `num_roots::digit_loop` meets its contract. The invariant: the i highest digits of the root are found, for the 2 * i highest digits of m, and `left` is the rest of m.
-- Assumes nothing.
use mathlib.Core.Path.{◌≡◌, sym, ap, ◌∙◌}
use Prim.Native.Nat.{ℕ, ◌+◌, ◌*◌, ◌/◌, ◌^◌, ◌≤◌}
use native.Mathlib.Nat.{lt_of_lt_of_le, pow-suc, mul_assoc}
use native.Mathlib.Numerals.{add-one}
use native.Mathlib.Omega.{arith}
use lib.Pow.{pow_mono, high}
use Rattle.num_roots.specs.Root.{square}
use Rattle.num_roots.proofs.digit_loop.Goals as goal

four : (m i : ℕ) → m * 4 ^ (i + 1) ≡ m * 4 ^ i * 4
four m i = ap (λ (x : ℕ). m * 4 ^ x) (add-one i) ∙ ap (λ (x : ℕ). m * x) (pow-suc 4 i) ∙ sym (mul_assoc m (4 ^ i) 4)

two : (i : ℕ) → 2 ^ (i + 1) ≡ 2 ^ i * 2
two i = ap (λ (x : ℕ). 2 ^ x) (add-one i) ∙ pow-suc 2 i

pub loop-i-init : goal.loop-i-init
loop-i-init c = (omega arith, omega arith, omega arith, omega arith, omega arith)

pub next_digit-s-requires : goal.next_digit-s-requires
next_digit-s-requires c =
    let l = c.loop-i.invariant in
    let e : 2 ^ c.loop-i.i ≤ 2 ^ 56 = pow_mono {j = 56} (omega arith) in
    (l.2, (lt_of_lt_of_le l.3 e, omega arith))

pub loop-i-preserved : goal.loop-i-preserved
loop-i-preserved c =
    let i = c.loop-i.i in
    let m = c.args.m in
    let w = c.next_digit-s.ensures in
    (omega arith, omega (arith, four m i, w.0.sum), w.0.most, omega (arith, two i, w.1), omega arith)

pub returns : goal.returns
returns c =
    let m = c.args.m in
    let d = c.args.d in
    let s = c.loop-i.s in
    let l = c.loop-i.invariant in
    let e : c.loop-i.i ≡ d = omega arith in
    record {
      sum = ap (λ (x : ℕ). x / 2 ^ 64) (ap (λ (x : ℕ). m * 4 ^ x) (sym e) ∙ sym l.1) ∙ high (square s.root + s.rest) 64 l.4;
      most = l.2;
    }
