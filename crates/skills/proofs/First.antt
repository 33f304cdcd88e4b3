-- The end of the first section, ceil(s / 400) × 400 in f64, for a start s from 0 to 40,000,000: it is 400 × q exactly, for a whole q with s ≤ 400 × (q + 1).
-- The division may round s / 400 down to a whole number or below it, hence q + 1. Assumes nothing.
use Prim.Native.Nat.{ℕ, zero, suc, ◌+◌, ◌-◌, ◌*◌, ◌/◌, ◌%◌, ◌^◌, ◌≤◌, ◌<◌}
use native.Mathlib.Nat.{mul-one, mul_comm, mul_assoc, mul_right_comm, mul-pos, le_of_mul-le-mul_right, le_trans, le_of_eq, le_of_lt, zero-mul, zero-add, div-lt_iff_lt-mul, div-add-mod', mod-lt}
use native.Mathlib.Omega.{arith}
use mathlib.Core.Path.{◌≡◌, refl, sym, ap, ◌∙◌, subst}
use mathlib.Core.Bool.{Bool, true, false, cond, ◌&&◌, ◌||◌, true≢false}
use lib.Dec.{T, ltb, eqb, ltb→lt, eqb→eq, lit<, lit≤}
use lib.IntN.{ℤ, pos}
use lib.Ieee as Ieee
use lib.Ieee.{Float, nan, inf, fin, binary64, prec, emax, low, up, down, odd, units, round, lt, le, eq, mul, div, add}
use lib.Ieee.Exact.{HasValue}
use lib.Ieee.Back.{round_whole}
use lib.Ieee.Order.{round_mono}
use lib.Ieee.Scale.{round_same}
use lib.Ieee.Fits.{down_pos, round_is, and_l}
use Rattle.num_floats.specs.Numbers.{◌⊗◌}
use Rattle.num_whole.specs.Whole.{above, ceil_of}
use Rattle.num_whole.specs.Whole.{clear}
use Rattle.num_whole.specs.WholeValues.{whole_lt}
use Rattle.skills.specs.Strains.{section_length, first_end}
use Rattle.skills.proofs.Ends.{whole, EndAt, end_at}

-- ---- comparisons of values with the sign clear, as fractions
or-le : (a b : ℕ) (t : Bool) → T (ltb a b || eqb a b && t) → a ≤ b
or-le a b t h = go (ltb a b) (ltb→lt a b) h
  where
    go : (z : Bool) → (T z → a < b) → T (z || eqb a b && t) → a ≤ b
    go true f h = le_of_lt (f tt)
    go false f h = le_of_eq (eqb→eq a b (and_l (eqb a b) t h))

pub le_cross : (m : ℕ) (e : ℤ) (n : ℕ) (d : ℤ) → T (le (fin false m e) (fin false n d)) → m * up e * down d ≤ n * up d * down e
unfolding le lt eq
le_cross m e n d h = or-le (m * up e * down d) (n * up d * down e) (true || eqb (m * up e * down d) 0) h

clear_units : (q k : ℕ) → T (clear (units binary64 false q k))
unfolding units odd
clear_units q k = go (ltb (q * 2 ^ k) (2 ^ (low binary64 + suc (emax binary64)))) q
  where
    go : (b : Bool) (p : ℕ) → T (clear (cond b (odd (suc (prec binary64)) false p k (low binary64)) (inf false)))
    go true zero = tt
    go true (suc p) = tt
    go false p = tt

clear_round : (a c : ℕ) → T (clear (round binary64 false a c))
clear_round a c = subst (λ (x : Float). T (clear x)) (sym (round_is binary64 false a c)) (clear_units _ _)

-- x is finite, with its sign clear, and no more than the whole number k
pub record Held (x : Float) (k : ℕ) : Type 0 where
  pub m : ℕ
  pub e : ℤ
  pub is : x ≡ fin false m e
  pub most : m * up e ≤ k * down e

held_under : (x w : Float) (k : ℕ) → T (clear x) → HasValue w false k 1 → T (le x w) → Held x k
unfolding le lt eq
held_under nan w k c v h = absurd h
held_under (inf true) w k c v h = absurd c
held_under (inf false) nan k c v h = absurd v
held_under (inf false) (inf s) k c v h = absurd v
held_under (inf false) (fin s n d) k c v h = absurd h
held_under (fin true m e) w k c v h = absurd c
held_under (fin false m e) nan k c v h = absurd v
held_under (fin false m e) (inf s) k c v h = absurd v
held_under (fin false m e) (fin true n d) k c v h = absurd (true≢false v.0)
held_under (fin false m e) (fin false n d) k c v h = record {
  m = m;
  e = e;
  is = refl;
  most = le_of_mul-le-mul_right (le_trans (le_cross m e n d h) (le_of_eq (ap (λ (z : ℕ). z * down e) (sym (mul-one (n * up d)) ∙ v.1) ∙ mul_right_comm k (down d) (down e)))) (down_pos d);
}

-- a / c rounded, where it is no more than k
pub held : (a c k : ℕ) → 0 < c → k ≤ 2 ^ 53 → a ≤ k * c → Held (round binary64 false a c) k
held a c k C l h = held_under (round binary64 false a c) (whole k) k (clear_round a c) (round_whole binary64 false k l) (round_mono binary64 a c k 1 C (lit< tt) (le_trans (le_of_eq (mul-one a)) h))

-- a whole number that is no more than y
whole_le : (w : Float) (k m : ℕ) (e : ℤ) → HasValue w false k 1 → T (le w (fin false m e)) → k * down e ≤ m * up e
whole_le nan k m e v h = absurd v
whole_le (inf s) k m e v h = absurd v
whole_le (fin true n d) k m e v h = absurd (true≢false v.0)
whole_le (fin false n d) k m e v h =
    le_of_mul-le-mul_right (le_trans (le_of_eq (mul_right_comm k (down e) (down d) ∙ ap (λ (z : ℕ). z * down e) (sym (sym (mul-one (n * up d)) ∙ v.1)))) (le_cross n d m e h)) (down_pos d)

-- ---- 400
four_hundred : section_length ≡ fin false 25 (pos 4)
unfolding Ieee.of_bits
four_hundred = refl

div_400 : (m : ℕ) (e : ℤ) → div binary64 (fin false m e) section_length ≡ round binary64 false (m * up e) (400 * down e)
unfolding div
div_400 m e = ap (div binary64 (fin false m e)) four_hundred ∙ ap (λ (z : ℕ). round binary64 false z (400 * down e)) (mul-one (m * up e))

mul_at : (t : Float) (q : ℕ) → HasValue t false q 1 → mul binary64 t (fin false 25 (pos 4)) ≡ whole (400 * q)
unfolding mul
mul_at nan q v = absurd v
mul_at (inf s) q v = absurd v
mul_at (fin true n d) q v = absurd (true≢false v.0)
mul_at (fin false n d) q v =
    round_same binary64 false (n * up d * 400) (down d * 1) (400 * q) 1 (mul-pos (down_pos d) (lit< tt)) (lit< tt)
    (mul-one (n * up d * 400) ∙ ap (λ (z : ℕ). z * 400) (sym (mul-one (n * up d)) ∙ v.1) ∙ mul_comm (q * down d) 400 ∙ sym (mul_assoc 400 q (down d)) ∙ ap (λ (z : ℕ). 400 * q * z) (sym (mul-one (down d))))

-- ---- the quotient's ceiling
ceil_ge : (n d : ℕ) → 0 < d → n ≤ above n d * d
ceil_ge n d h = go (above n d * d) ((n + (d - 1)) % d) (div-add-mod' (n + (d - 1)) d) (mod-lt (n + (d - 1)) h)
  where
    go : (x r : ℕ) → x + r ≡ n + (d - 1) → r < d → n ≤ x
    go x r e l = omega arith

ceil_le : (n d k : ℕ) → 0 < d → n ≤ k * d → above n d ≤ k
ceil_le n d k h l =
    let u : n + (d - 1) < suc k * d = (let s : suc k * d ≡ k * d + d = native.Mathlib.Nat.suc-mul k d in go (suc k * d) (k * d) s l) in
    native.Mathlib.Nat.le_of_suc-le-suc ((div-lt_iff_lt-mul h).1 u)
  where
    go : (x y : ℕ) → x ≡ y + d → n ≤ y → n + (d - 1) < x
    go x y e l = omega arith

-- what is wanted of the end of the first section
pub record First (s : Float) : Type 0 where
  pub q : ℕ
  pub end : EndAt (400 * q) (first_end s)
  pub room : 400 * (q + 8191) ≤ 2 ^ 53
  pub near : lt (whole (400 * (q + 1))) s ≡ false

exact : (m : ℕ) (e : ℤ) (y : Float) → y ≡ fin false m e → m * up e ≤ 100000 * down e → ceil_of binary64 y ⊗ section_length ≡ whole (400 * above (m * up e) (down e))
unfolding ceil_of
exact m e y i h =
    let q = above (m * up e) (down e) in
    let l = ceil_le (m * up e) (down e) 100000 (down_pos e) h in
    ap (λ (x : Float). ceil_of binary64 x ⊗ section_length) i
    ∙ ap (mul binary64 (round binary64 false q 1)) four_hundred
    ∙ mul_at (round binary64 false q 1) q (round_whole binary64 false q (omega (arith, l)))

pub first_of : (m : ℕ) (e : ℤ) → m * up e ≤ 40000000 * down e → First (fin false m e)
first_of m e h =
    let N = m * up e in
    let D = down e in
    let p = down_pos e in
    let c : 0 < 400 * D = omega arith in
    let b : N ≤ 100000 * (400 * D) = omega (arith, h) in
    let y = held N (400 * D) 100000 c (lit≤ tt) b in
    let q = above (y.m * up y.e) (down y.e) in
    let l = ceil_le (y.m * up y.e) (down y.e) 100000 (down_pos y.e) y.most in
    record {
      q = q;
      end = end_at (400 * q) _ (exact y.m y.e _ (div_400 m e ∙ y.is) y.most);
      room = omega (arith, l);
      near = near q l y refl (lt (whole (400 * (q + 1))) (fin false m e)) refl;
    }
  where
    crossed : (a b : ℕ) → 400 * (a + 1) * b ≡ (a + 1) * (400 * b)
    crossed a b = ap (λ (z : ℕ). z * b) (mul_comm 400 (a + 1)) ∙ mul_assoc (a + 1) 400 b

    over : (q a b : ℕ) → 0 < b → (q + 1) * b ≤ a → a ≤ q * b → ⊥
    over q a b h k l =
        let s : (q + 1) * b ≡ q * b + 1 * b = native.Mathlib.Nat.add-mul q 1 b in
        no ((q + 1) * b) (q * b) s (le_trans k l)
      where
        no : (x y : ℕ) → x ≡ y + 1 * b → x ≤ y → ⊥
        no x y e l = omega arith

    near : (q : ℕ) → q ≤ 100000 → (y : Held (round binary64 false (m * up e) (400 * down e)) 100000) → q ≡ above (y.m * up y.e) (down y.e) → (b : Bool) → lt (whole (400 * (q + 1))) (fin false m e) ≡ b → lt (whole (400 * (q + 1))) (fin false m e) ≡ false
    near q l y i false t = t
    near q l y i true t =
        let p = down_pos e in
        let c : 0 < 400 * down e = omega arith in
        let f : 400 * (q + 1) ≤ 2 ^ 53 = omega (arith, l) in
        let g : q + 1 ≤ 2 ^ 53 = omega (arith, l) in
        let a = whole_lt m e (whole (400 * (q + 1))) (400 * (q + 1)) (round_whole binary64 false (400 * (q + 1)) f) t in
        let k : (q + 1) * (400 * down e) ≤ m * up e * 1 = le_trans (le_of_eq (sym (crossed q (down e)))) (le_trans (le_of_lt a) (le_of_eq (sym (mul-one (m * up e))))) in
        let r = round_mono binary64 (q + 1) 1 (m * up e) (400 * down e) (lit< tt) c k in
        let w = whole_le (whole (q + 1)) (q + 1) y.m y.e (round_whole binary64 false (q + 1) g) (subst (λ (x : Float). T (le (whole (q + 1)) x)) y.is r) in
        absurd (over q (y.m * up y.e) (down y.e) (down_pos y.e) w (subst (λ (z : ℕ). y.m * up y.e ≤ z * down y.e) (sym i) (ceil_ge (y.m * up y.e) (down y.e) (down_pos y.e))))

-- ---- a start of -0: the end is -0
ltb_zero : (b : ℕ) → ltb b 0 ≡ false
ltb_zero b = borrow.Author.Tests.le-ltb b 0 Prim.Native.Nat.zero-le

zero-below : (y : Float) → lt (fin true 0 (pos 0)) y ≡ lt (fin false 0 (pos 0)) y
unfolding lt
zero-below nan = refl
zero-below (inf s) = refl
zero-below (fin true n d) = ap (ltb (n * up d * 1)) (zero-mul (down d)) ∙ ltb_zero (n * up d * 1)
zero-below (fin false n d) = ap (λ (z : ℕ). ltb 0 (z + n * up d * 1)) (zero-mul (down d)) ∙ ap (ltb 0) (zero-add (n * up d * 1)) ∙ ap (λ (z : ℕ). ltb z (n * up d * 1)) (sym (zero-mul (down d)))

zero_end : first_end (fin true 0 (pos 0)) ≡ fin true 0 (pos 0)
unfolding mul div ceil_of round Ieee.of_bits
zero_end = refl

whole_zero : fin false 0 (pos 0) ≡ whole 0
unfolding round
whole_zero = refl

zero_next : add binary64 (fin true 0 (pos 0)) section_length ≡ whole 400
unfolding add Ieee.sum round Ieee.of_bits
zero_next = refl

zero_near : lt (whole 400) (fin true 0 (pos 0)) ≡ false
unfolding lt round
zero_near = refl

pub first_zero : First (fin true 0 (pos 0))
first_zero = record {
  q = 0;
  end = record {
    below = λ y. ap (λ (x : Float). lt x y) zero_end ∙ zero-below y ∙ ap (λ (x : Float). lt x y) whole_zero;
    next = λ h. ap (λ (x : Float). add binary64 x section_length) zero_end ∙ zero_next;
  };
  room = lit≤ tt;
  near = zero_near;
}
