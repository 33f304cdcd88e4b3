-- Where a root lies: it is no NaN for a number that is not below zero, and no more than 1 for a number from 0 to 1. Over the format. Assumes nothing.
use Rattle.std.specs.Prelude.{◌≡◌, refl, true, false, ℕ, zero, suc, ◌+◌, ◌*◌, ◌/◌, ◌^◌, ◌≤◌, ◌<◌, ℤ, pos, T, eqb, Float}
use Rattle.std.proofs.Common.{sym, ap, ◌∙◌, subst, true≢false, le_trans, le_of_eq, lt_of_le_of_lt, lt_of_lt_of_le, lt_irrefl, not-le_of_lt, zero-mul, zero-lt-suc, one-mul, mul-one, mul-pos, mul-le-mul_right, le-add_right, arith, lt→ltb, eqb→eq, pow_pos, ltb-false}
use Rattle.std.proofs.Math.Nat.{div-le_of_le-mul}
use Rattle.std.proofs.Math.Pow.{pow-lt}
use Rattle.std.specs.Float.{nan, inf, fin, Format}
use Rattle.std.specs.Float.Ieee.{prec, emax, low, up, down, units, lt, le, is_nan}
use Rattle.std.specs.Float.Ieee.Bits.{is_true}
use Rattle.std.specs.Float.Ieee.Fits.{two, two-le_pos, up_pos, and_l}
use Rattle.std.specs.Float.Ieee.Exact.{units_val}
use Rattle.std.specs.Float.Ieee.Order.{le_of_values}
use Rattle.std.specs.Float.Ieee.Positive.{le→cross}
use Rattle.num_floats.specs.Numbers.{zero64, one64}
use Rattle.num_floats.specs.Literals.{zero_is, one_is}
use Rattle.num_floats.specs.Value.{units_no_nan}
use Rattle.num_roots.specs.Root.{square, root_kept, root_drop, root_of}
use Rattle.num_roots.proofs.Nearness.{kept_under}

above_zero : (m : ℕ) (e : ℤ) → 0 < suc m * up e * 1
above_zero m e = lt_of_lt_of_le (mul-pos (zero-lt-suc m) (up_pos e)) (le_of_eq (sym (mul-one (suc m * up e))))

no_nan_at : (f : Format) (x : Float) → lt x (fin false 0 (pos 0)) ≡ false → is_nan x ≡ false → is_nan (root_of f x) ≡ false
unfolding root_of lt is_nan
no_nan_at f nan h k = absurd (true≢false k)
no_nan_at f (inf true) h k = absurd (true≢false h)
no_nan_at f (inf false) h k = refl
no_nan_at f (fin s zero e) h k = refl
no_nan_at f (fin true (suc m) e) h k = absurd (not-le_of_lt (lt_of_lt_of_le (above_zero m e) (le-add_right (suc m * up e * 1) (0 * 1 * down e))) (ltb-false 0 (suc m * up e * 1 + 0 * 1 * down e) h))
no_nan_at f (fin false (suc m) e) h k = units_no_nan f false _ _

pub root_no_nan : (f : Format) (x : Float) → lt x zero64 ≡ false → is_nan x ≡ false → is_nan (root_of f x) ≡ false
root_no_nan f x h = no_nan_at f x (ap (lt x) (sym zero_is) ∙ h)

le_one_at : (f : Format) (x : Float) → T (le (fin false 0 (pos 0)) x) → T (le x (fin false 1 (pos 0))) → T (le (root_of f x) (fin false 1 (pos 0)))
unfolding root_of le
le_one_at f nan h k = absurd h
le_one_at f (inf true) h k = absurd h
le_one_at f (inf false) h k = absurd k
le_one_at f (fin s zero e) h k = k
le_one_at f (fin true (suc m) e) h k =
    let b = suc m * up e * 1 in
    absurd (lt_irrefl 0 (subst (λ (z : ℕ). 0 < z) (sym (eqb→eq (0 * 1 * down e) b (and_l (eqb (0 * 1 * down e) b) (eqb (0 * 1 * down e) 0) h)) ∙ zero-mul (down e)) (above_zero m e)))
le_one_at f (fin false (suc m) e) h k =
    let l = 2 ^ low f in
    let n = suc m * up e * square l / down e in
    let p = prec f in
    let at_most : suc m * up e ≤ down e = le_trans (le_of_eq (sym (mul-one (suc m * up e)))) (le_trans (le→cross (fin false (suc m) e) (fin false 1 (pos 0)) (lt→ltb 0 (suc m) (zero-lt-suc m)) tt k) (le_of_eq (one-mul (down e)))) in
    let under : root_kept p n * 2 ^ root_drop p n ≤ l = kept_under p n (two-le_pos p (two f)) (low f) (div-le_of_le-mul (down e) (mul-le-mul_right (square l) at_most)) in
    le_of_values (units f false (root_kept p n) (root_drop p n)) (fin false 1 (pos 0)) (root_kept p n * 2 ^ root_drop p n) l 1 1 (pow_pos (low f)) (pow_pos 0)
    (units_val f false (root_kept p n) (root_drop p n) (lt_of_le_of_lt under (pow-lt (more (low f) (emax f))))) (refl, refl) (le_trans (le_of_eq (mul-one (root_kept p n * 2 ^ root_drop p n))) (le_trans under (le_of_eq (sym (one-mul l)))))
  where
    more : (a b : ℕ) → a < a + suc b
    more a b = omega arith

pub root_le_one : (f : Format) (x : Float) → le zero64 x ≡ true → le x one64 ≡ true → le (root_of f x) one64 ≡ true
root_le_one f x h k =
    is_true (le (root_of f x) one64)
    (subst (λ (z : Float). T (le (root_of f x) z)) (sym one_is) (le_one_at f x (subst T (sym (ap (λ (z : Float). le z x) (sym zero_is) ∙ h)) tt) (subst T (sym (ap (le x) (sym one_is) ∙ k)) tt)))
