-- `num_two_table::next_root` meets its contract: with so many bits left, the root lies from r to below r + 2 ^ left. Assumes nothing.
use Prim.Native.Nat.{ℕ, suc, ◌+◌, ◌-◌, ◌*◌, ◌/◌, ◌%◌, ◌^◌, ◌≤◌, ◌<◌}
use native.Mathlib.Omega.{arith}
use native.Mathlib.Nat.{le_trans, lt_of_le_of_lt, mul-add, one-mul, mod-eq_of_lt, mul-le-mul_right, pow-succ', div-lt_iff_lt-mul, le-div_iff_mul-le}
use mathlib.Core.Path.{◌≡◌, sym, ap, ◌∙◌, subst}
use lib.Dec.{lit<}
use lib.Pow.{pow_pos, pow-lt}
use Rattle.num_roots.specs.Root.{square}
use Rattle.num_roots.specs.Isqrt.{square_suc, lt_of_square}
use Rattle.num_two_table.proofs.RuleLaws.{largest}
use Rattle.num_two_table.proofs.next_root.Goals as goal

-- one less than a square
one_less : (d : ℕ) → d * (d + 2) + 1 ≡ square (d + 1)
one_less d = omega (arith, mul-add d d 2, square_suc d)

-- the test of c: n / 2 ^ 62 < t says that n is below t * 2 ^ 62
module _ (t c v : ℕ) (some : 1 ≤ c) (is : v ≡ (c - 1) * (c + 1) / 2 ^ 62) where
  whole : (c - 1) * (c + 1) + 1 ≡ square c
  whole =
      let up : c - 1 + 2 ≡ c + 1 = omega arith in
      let here : c - 1 + 1 ≡ c = omega arith in
      subst (λ (x : ℕ). (c - 1) * x + 1 ≡ square c) up (subst (λ (x : ℕ). (c - 1) * (c - 1 + 2) + 1 ≡ square x) here (one_less (c - 1)))

  within : v < t → square c ≤ t * 2 ^ 62
  within h = omega (arith, whole, (div-lt_iff_lt-mul {k = 2 ^ 62} {x = (c - 1) * (c + 1)} {y = t} (pow_pos 62)).0 (subst (λ (x : ℕ). x < t) is h))

  beyond : t ≤ v → t * 2 ^ 62 < square c
  beyond h = omega (arith, whole, (le-div_iff_mul-le {k = 2 ^ 62} {x = t} {y = (c - 1) * (c + 1)} (pow_pos 62)).0 (subst (λ (x : ℕ). t ≤ x) is h))

-- a turn, with l bits left
module _ (t r l : ℕ) (some : 0 < l) (most : t ≤ 2 ^ 63) (inv : (l ≤ 63) × (r + 2 ^ l ≤ 2 ^ 63) × (square r ≤ t * 2 ^ 62) × (t * 2 ^ 62 < square (r + 2 ^ l))) where
  bit : 1 * 2 ^ (l - 1) % 2 ^ 64 ≡ 2 ^ (l - 1)
  bit = ap (λ (x : ℕ). x % 2 ^ 64) (one-mul (2 ^ (l - 1))) ∙ mod-eq_of_lt (pow-lt {i = l - 1} {j = 64} (omega arith))

  double : 2 ^ l ≡ 2 * 2 ^ (l - 1)
  double = let e : l ≡ suc (l - 1) = omega arith in ap (λ (x : ℕ). 2 ^ x) e ∙ pow-succ' 2 (l - 1)

  small : r < 2 ^ 63 - 2
  small = lt_of_square (lt_of_le_of_lt (le_trans inv.2 (mul-le-mul_right (2 ^ 62) most)) (lit< tt))

  fits : (1 ≤ r + 1 * 2 ^ (l - 1) % 2 ^ 64) × (r + 1 * 2 ^ (l - 1) % 2 ^ 64 + 1 < 2 ^ 63)
  fits = (omega (arith, bit, pow_pos (l - 1)), omega (arith, bit, pow_pos (l - 1), double, small, inv.1))

pub loop-left-init : goal.loop-left-init
loop-left-init c = (omega arith, omega arith, omega arith, lt_of_le_of_lt (mul-le-mul_right (2 ^ 62) c.requires) (lit< tt))

pub overflow_add-c : goal.overflow_add-c
overflow_add-c c = omega (arith, fits c.args.t c.loop-left.r c.loop-left.left c.loop-left-test.true c.requires c.loop-left.invariant)

pub overflow_sub-c : goal.overflow_sub-c
overflow_sub-c c = omega (arith, fits c.args.t c.loop-left.r c.loop-left.left c.loop-left-test.true c.requires c.loop-left.invariant)

pub overflow_add-c-in-loop-left : goal.overflow_add-c-in-loop-left
overflow_add-c-in-loop-left c = omega (arith, fits c.args.t c.loop-left.r c.loop-left.left c.loop-left-test.true c.requires c.loop-left.invariant)

pub mul_shift62-requires : goal.mul_shift62-requires
mul_shift62-requires c = (omega (arith, fits c.args.t c.loop-left.r c.loop-left.left c.loop-left-test.true c.requires c.loop-left.invariant), (fits c.args.t c.loop-left.r c.loop-left.left c.loop-left-test.true c.requires c.loop-left.invariant).1)

pub loop-left-preserved-then-mul_shift62-t : goal.loop-left-preserved-then-mul_shift62-t
loop-left-preserved-then-mul_shift62-t c =
    let l = c.loop-left in
    let t = c.args.t in
    let some = c.loop-left-test.true in
    let most = c.requires in
    let b = bit t l.r l.left some most l.invariant in
    let d = double t l.r l.left some most l.invariant in
    let same : l.r + 1 * 2 ^ (l.left - 1) % 2 ^ 64 + 2 ^ (l.left - 1) ≡ l.r + 2 ^ l.left = omega (arith, b, d) in (
      omega arith,
      omega (arith, same, l.invariant.1),
      within t _ _ (fits c.args.t c.loop-left.r c.loop-left.left c.loop-left-test.true c.requires c.loop-left.invariant).0 c.mul_shift62.ensures c.if-mul_shift62-t.true,
      subst (λ (x : ℕ). t * 2 ^ 62 < square x) (sym same) l.invariant.3,
    )

pub loop-left-preserved : goal.loop-left-preserved
loop-left-preserved c =
    let l = c.loop-left in
    let t = c.args.t in
    let some = c.loop-left-test.true in
    let most = c.requires in
    let b = bit t l.r l.left some most l.invariant in
    let d = double t l.r l.left some most l.invariant in (
      omega arith,
      omega (arith, d, l.invariant.1),
      l.invariant.2,
      subst (λ (x : ℕ). t * 2 ^ 62 < square (l.r + x)) b (beyond t _ _ (fits c.args.t c.loop-left.r c.loop-left.left c.loop-left-test.true c.requires c.loop-left.invariant).0 c.mul_shift62.ensures c.if-mul_shift62-t.false),
    )

pub returns : goal.returns
returns c =
    let l = c.loop-left in
    let none : l.left ≡ 0 = omega arith in
    largest (l.invariant.2, subst (λ (x : ℕ). c.args.t * 2 ^ 62 < square (l.r + 2 ^ x)) none l.invariant.3)
