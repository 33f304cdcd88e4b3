-- Condition 6 of document 01 bounds every start: where the first start t₁ isn't above 400 × (q + 1), and t - t₁ isn't above 3,000,000, t isn't above 400 × (q + 8191).
-- Assumes nothing.
use Prim.Native.Nat.{ℕ, ◌+◌, ◌-◌, ◌*◌, ◌^◌, ◌≤◌}
use native.Mathlib.Nat.{mul_comm, mul_assoc, mul-le-mul_right, mul-pos, le_trans, le_of_eq, le_of_lt}
use native.Mathlib.Omega.{arith}
use mathlib.Core.Path.{◌≡◌, refl, sym, ap, ◌∙◌, subst}
use mathlib.Core.Bool.{Bool, true, false, true≢false}
use lib.Arith.{le→nltb}
use lib.Dec.{T, ltb, lit<}
use lib.IntN.{ℤ}
use lib.Ieee as Ieee
use lib.Ieee.{Float, nan, inf, fin, up, down, binary64, lt, le, add, sub, neg, round, sum}
use lib.Ieee.Back.{round_whole}
use lib.Ieee.Bits.{cond_no}
use lib.Ieee.Order.{round_mono}
use lib.Ieee.Fits.{down_pos}
use lib.Ieee.Positive.{above_of_le, le→cross}
use borrow.Author.Tests.{lt-ltb}
use Rattle.num_floats.specs.Numbers.{f64}
use Rattle.num_whole.specs.WholeValues.{whole_lt, whole_ge}
use Rattle.skills.proofs.Ends.{whole}

-- 3,000,000
abbrev pub longest : Float
longest = f64 0x4146E36000000000

-- the difference of two values that are not below zero
sub_is : (m : ℕ) (e : ℤ) (n : ℕ) (d : ℤ) → n * up d * down e ≤ m * up e * down d
    → sub binary64 (fin false m e) (fin false n d) ≡ round binary64 false (m * up e * down d - n * up d * down e) (down e * down d)
unfolding sub add neg sum
sub_is m e n d h =
    let a = m * up e * down d in
    let b = n * up d * down e in
    let c = down e * down d in
    cond_no (ltb a b) (round binary64 true (b - a) c) (round binary64 false (a - b) c) (le→nltb a b h)

-- what is at least 3,276,000 is above 3,000,000
beyond : (y : Float) → T (le (whole 3276000) y) → lt longest y ≡ true
unfolding le lt round Ieee.of_bits
beyond nan h = absurd h
beyond (inf true) h = absurd h
beyond (inf false) h = refl
beyond (fin true n d) h = absurd (above_of_le (whole 3276000) (fin true n d) tt h)
beyond (fin false n d) h =
    let q = above_of_le (whole 3276000) (fin false n d) tt h in
    let l : 3276000 * down d ≤ n * up d * 1 = le→cross (whole 3276000) (fin false n d) tt q h in
    let p = down_pos d in
    lt-ltb (3000000 * down d) (n * up d * 1) (omega arith)

-- a / c is at least 400 × (q + 8191), and b / c at most 400 × (q + 1)
apart : (q c a b : ℕ) → 400 * (q + 8191) * c ≤ a → b ≤ 400 * (q + 1) * c → 3276000 * c ≤ (a - b) * 1
apart q c a b h k = omega arith

pub span : (q n : ℕ) (d : ℤ) (m : ℕ) (e : ℤ) → 400 * (q + 8191) ≤ 2 ^ 53
    → lt (whole (400 * (q + 1))) (fin false n d) ≡ false → lt longest (sub binary64 (fin false m e) (fin false n d)) ≡ false
    → lt (whole (400 * (q + 8191))) (fin false m e) ≡ false
span q n d m e f g s = go (lt (whole (400 * (q + 8191))) (fin false m e)) refl
  where
    bound : lt (whole (400 * (q + 8191))) (fin false m e) ≡ true → lt longest (sub binary64 (fin false m e) (fin false n d)) ≡ true
    bound h =
        let small : 400 * (q + 1) ≤ 2 ^ 53 = omega arith in
        let a = whole_lt m e (whole (400 * (q + 8191))) (400 * (q + 8191)) (round_whole binary64 false (400 * (q + 8191)) f) h in
        let b = whole_ge n d (whole (400 * (q + 1))) (400 * (q + 1)) (round_whole binary64 false (400 * (q + 1)) small) g in
        let c = down e * down d in
        let a' : 400 * (q + 8191) * c ≤ m * up e * down d = le_trans (le_of_eq (sym (mul_assoc (400 * (q + 8191)) (down e) (down d)))) (mul-le-mul_right (down d) (le_of_lt a)) in
        let b' : n * up d * down e ≤ 400 * (q + 1) * c = le_trans (mul-le-mul_right (down e) b) (le_of_eq (mul_assoc (400 * (q + 1)) (down d) (down e) ∙ ap (λ (z : ℕ). 400 * (q + 1) * z) (mul_comm (down d) (down e)))) in
        let k = apart q c (m * up e * down d) (n * up d * down e) a' b' in
        let o : n * up d * down e ≤ m * up e * down d = le_trans b' (le_trans (mul-le-mul_right c (mono q)) a') in
        let r = round_mono binary64 3276000 1 (m * up e * down d - n * up d * down e) c (lit< tt) (mul-pos (down_pos e) (down_pos d)) k in
        subst (λ (y : Float). lt longest y ≡ true) (sym (sub_is m e n d o)) (beyond (round binary64 false (m * up e * down d - n * up d * down e) c) r)
      where
        mono : (i : ℕ) → 400 * (i + 1) ≤ 400 * (i + 8191)
        mono i = omega arith

    go : (b : Bool) → lt (whole (400 * (q + 8191))) (fin false m e) ≡ b → lt (whole (400 * (q + 8191))) (fin false m e) ≡ false
    go true h = absurd (true≢false (sym (bound h) ∙ s))
    go false h = h
