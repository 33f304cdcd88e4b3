-- `num_elementary::two_bits` meets its contract. What the bits that are left make of P is what all of them make of it from the start. Assumes nothing.
use Rattle.std.proofs.Common.{◌≡◌, ℕ, suc, ◌+◌, ◌-◌, ◌*◌, ◌/◌, ◌%◌, ◌^◌, ◌<◌, ◌≤◌, List, get_or, sym, ap, ◌∙◌, subst, le_trans, lt_trans, mod-eq_of_lt, mul-le-mul_left, one-mul, arith, lit<, lit≤, pow_pos}
use native.Mathlib.Nat.{pow-succ'}
use lib.Pow.{pow-lt}
use lib.Count.{count_leading_zeros}
use lib.Ieee.{size}
use lib.Ieee.Digits.{size-lt, size_reaches, size-le}
use Rattle.num_elementary.specs.Two.{two_root, two_bits}
use Rattle.num_elementary.specs.Roots.{two_roots, roots_at}
use Rattle.num_elementary.specs.Significand.{size_pos, size_zeros}
use Rattle.num_elementary.specs.TwoLaws.{root_entry, p_last, turn_p, turn_small, turn_set, turn_grows}
use Rattle.num_elementary.proofs.TwoSteps.{root_falls, bits_first, bits_rest, none_left}
use Rattle.num_elementary.proofs.two_bits.Goals as goal

-- the highest bit of what is left
module _ (r : ℕ) (some : 0 < r) (few : r < 2 ^ 40) where
  abbrev place : ℕ
  place = 63 - count_leading_zeros 64 r

  zeros : count_leading_zeros 64 r + size r ≡ 64
  zeros = size_zeros r some (lt_trans few (lit< tt))

  digits : size r ≡ suc place
  digits = omega (arith, zeros, size_pos r some)

  here : place < 40
  here = omega (arith, digits, size-le r 40 few)

  least : 2 ^ place ≤ r
  least = size_reaches r place (omega (arith, digits))

  bit : 1 * 2 ^ place % 2 ^ 64 ≡ 2 ^ place
  bit = ap (λ (x : ℕ). x % 2 ^ 64) (one-mul (2 ^ place)) ∙ mod-eq_of_lt (lt_trans (pow-lt here) (lit< tt))

  left : r - 2 ^ place < 2 ^ place
  left =
      let most : r < 2 ^ suc place = subst (λ (n : ℕ). r < 2 ^ n) digits (size-lt r) in
      omega (arith, most, pow-succ' 2 place, least)

  -- the table's entry there
  entry : (table : List ℕ) → table ≡ two_roots 40 → get_or table (39 - place) 0 ≡ two_root (40 - place)
  entry table e =
      let next : suc (39 - place) ≡ 40 - place = omega (arith, here) in
      ap (λ (l : List ℕ). get_or l (39 - place) 0) e ∙ (roots_at 40 (39 - place) (omega arith) ∙ ap two_root next)

  -- the turn there, from P = p to P = next
  module _ (p : ℕ) (h : p * two_root (40 - size r) ≤ 2 ^ 125) where
    abbrev next : ℕ
    next = p * two_root (40 - place) / 2 ^ 62

    same : 40 - (suc place - 1) ≡ 40 - place
    same = omega arith

    before : p * two_root (40 - suc place) ≤ 2 ^ 125
    before = subst (λ (n : ℕ). p * two_root (40 - n) ≤ 2 ^ 125) digits h

    p_fits : p < 2 ^ 63
    p_fits = turn_p (suc place) (omega arith) (omega (arith, here)) p before

    root_fits : two_root (40 - place) < 2 ^ 63
    root_fits = subst (λ (j : ℕ). two_root j < 2 ^ 63) same (turn_small (suc place) (omega arith) (omega (arith, here)))

    grows : 2 ^ 62 ≤ p → 2 ^ 62 ≤ next
    grows g = subst (λ (j : ℕ). 2 ^ 62 ≤ p * two_root j / 2 ^ 62) same (turn_grows (suc place) (omega arith) (omega (arith, here)) p g)

    falls : two_root (40 - size (r - 2 ^ place)) ≤ two_root (40 - place)
    falls =
        let few' : size (r - 2 ^ place) ≤ place = size-le (r - 2 ^ place) place left in
        let e : 40 - place + (place - size (r - 2 ^ place)) ≡ 40 - size (r - 2 ^ place) = omega (arith, few', here) in
        subst (λ (j : ℕ). two_root j ≤ two_root (40 - place)) e (root_falls (40 - place) (place - size (r - 2 ^ place)) (omega (arith, few', here)))

    after : next * two_root (40 - size (r - 2 ^ place)) ≤ 2 ^ 125
    after =
        le_trans (mul-le-mul_left next falls)
        (subst (λ (j : ℕ). p * two_root j / 2 ^ 62 * two_root j ≤ 2 ^ 125) same (turn_set (suc place) (omega arith) (omega (arith, here)) p before))

    taken : two_bits 40 (r - 2 ^ place) next ≡ two_bits 40 r p
    taken =
        let e : 2 ^ place + (r - 2 ^ place) ≡ r = omega (arith, least) in
        sym (bits_first place (r - 2 ^ place) p here left) ∙ ap (λ (x : ℕ). two_bits 40 x p) e

pub loop-rest-init : goal.loop-rest-init
loop-rest-init c =
    let f = c.args.f in (
      omega arith,
      omega arith,
      le_trans (mul-le-mul_left (2 ^ 62) (root_entry (40 - size (f % 2 ^ 40)) (omega arith)).most) (lit≤ tt),
      bits_rest f (2 ^ 62),
    )

pub overflow_sub-k : goal.overflow_sub-k
overflow_sub-k c = let l = c.loop-rest in omega (arith, zeros l.rest c.loop-rest-test.true l.invariant.0, size_pos l.rest c.loop-rest-test.true)

pub overflow_sub-k-in-loop-rest : goal.overflow_sub-k-in-loop-rest
overflow_sub-k-in-loop-rest c = let l = c.loop-rest in omega (arith, here l.rest c.loop-rest-test.true l.invariant.0)

pub offset_bounds-table-k : goal.offset_bounds-table-k
offset_bounds-table-k c = omega arith

pub bounds-table-k : goal.bounds-table-k
bounds-table-k c = omega arith

pub mul_shift62-p-requires : goal.mul_shift62-p-requires
mul_shift62-p-requires c =
    let l = c.loop-rest in
    let t = c.loop-rest-test.true in
    (p_fits l.rest t l.invariant.0 l.p l.invariant.2, subst (λ (x : ℕ). x < 2 ^ 63) (sym (entry l.rest t l.invariant.0 _ c.roots-table.ensures)) (root_fits l.rest t l.invariant.0 l.p l.invariant.2))

pub overflow_shl-rest : goal.overflow_shl-rest
overflow_shl-rest c = omega arith

pub overflow_sub-rest : goal.overflow_sub-rest
overflow_sub-rest c =
    let l = c.loop-rest in
    let t = c.loop-rest-test.true in
    subst (λ (x : ℕ). x ≤ l.rest) (sym (bit l.rest t l.invariant.0)) (least l.rest t l.invariant.0)

pub loop-rest-smaller : goal.loop-rest-smaller
loop-rest-smaller c =
    let l = c.loop-rest in
    let t = c.loop-rest-test.true in
    subst (λ (x : ℕ). l.rest - x < l.rest) (sym (bit l.rest t l.invariant.0)) (omega (arith, pow_pos (place l.rest t l.invariant.0), t))

pub loop-rest-preserved : goal.loop-rest-preserved
loop-rest-preserved c =
    let l = c.loop-rest in
    let t = c.loop-rest-test.true in
    let (few, some, bound, is) = l.invariant in
    let k = place l.rest t few in
    let r : c.mul_shift62-p.result ≡ next l.rest t few l.p bound = c.mul_shift62-p.ensures ∙ ap (λ (x : ℕ). l.p * x / 2 ^ 62) (entry l.rest t few _ c.roots-table.ensures) in
    subst (λ (x : ℕ). (l.rest - x < 2 ^ 40) × (2 ^ 62 ≤ c.mul_shift62-p.result) × (c.mul_shift62-p.result * two_root (40 - size (l.rest - x)) ≤ 2 ^ 125) × (two_bits 40 (l.rest - x) c.mul_shift62-p.result ≡ two_bits 40 c.args.f (2 ^ 62)))
    (sym (bit l.rest t few))
    (subst (λ (p : ℕ). (l.rest - 2 ^ k < 2 ^ 40) × (2 ^ 62 ≤ p) × (p * two_root (40 - size (l.rest - 2 ^ k)) ≤ 2 ^ 125) × (two_bits 40 (l.rest - 2 ^ k) p ≡ two_bits 40 c.args.f (2 ^ 62)))
    (sym r)
    (omega (arith, few), grows l.rest t few l.p bound some, after l.rest t few l.p bound, taken l.rest t few l.p bound ∙ is))

pub returns : goal.returns
unfolding size
returns c =
    let l = c.loop-rest in
    let none : l.rest ≡ 0 = omega arith in
    let (few, some, bound, is) = l.invariant in
    (sym (none_left l.p) ∙ (ap (λ (x : ℕ). two_bits 40 x l.p) (sym none) ∙ is), some, p_last l.p (subst (λ (x : ℕ). l.p * two_root (40 - size x) ≤ 2 ^ 125) none bound))
