-- The bound on the number of sections is never met on a chart that passes conditions 2, 3, 5 and 6 of document 01 (the others say nothing of times).
-- A start of -0 passes them too. Assumes nothing.
use Prim.Native.Nat.{ℕ, zero, suc, ◌+◌, ◌-◌, ◌*◌, ◌^◌, ◌≤◌, ◌<◌, zero-le}
use native.Mathlib.Nat.{mul-one, one-mul, mul_comm, mul_assoc, mul_left_comm, mul_right_comm, mul-pos, mul-le-mul_right, mul-le-mul_left, le_of_mul-le-mul_right, le_refl, le_trans, le_of_eq, not-le_of_lt, zero-mul, add-zero, sub-zero, zero-lt-suc, le-add_left}
use native.Mathlib.Omega.{arith}
use mathlib.Core.Path.{◌≡◌, refl, sym, ap, ◌∙◌, subst}
use mathlib.Core.Bool.{Bool, true, false, cond, ◌&&◌, true≢false}
use lib.Dec.{T, ltb, eqb, ltb→lt, eqb→eq, lit<, lit≤}
use lib.IntN.{ℤ, pos, negsuc}
use lib.Ieee as Ieee
use lib.Ieee.{Float, nan, inf, fin, binary64, up, down, round, lt, le, eq, sub, div, add, neg, sum}
use lib.Ieee.Exact.{HasValue}
use lib.Ieee.Back.{round_whole}
use lib.Ieee.Order.{round_mono}
use lib.Ieee.Scale.{round_same}
use lib.Ieee.Fits.{down_pos, up_pos, and_l}
use lib.Ieee.Positive.{num, den, den_pos, through, above_of_le}
use borrow.Author.Tests.{ltb-false, le-ltb, ne_eqb}
use Rattle.num_floats.specs.Numbers.{f64, ◌⊖◌, ◌⊘◌, zero64}
use Rattle.num_floats.specs.Literals.{zero_is}
use Rattle.num_whole.specs.WholeValues.{whole_lt, whole_ge}
use Rattle.skills.specs.declared.Skill.{Skill}
use Rattle.skills.specs.Strains.{first_end, reached, walk}
use Rattle.skills.proofs.Ends.{whole, EndAt, settled_at}
use Rattle.skills.proofs.Span.{longest, span}
use Rattle.skills.proofs.First.{le_cross, Held, held, First, first_of, first_zero}

-- 10,000,000
abbrev pub latest : Float
latest = f64 0x416312D000000000

-- 0.25 and 4
abbrev pub slowest : Float
slowest = f64 0x3FD0000000000000

abbrev pub fastest : Float
fastest = f64 0x4010000000000000

-- what the conditions say of the clock rate and of the starts of n objects, as the chart has them
pub record Passes (n : ℕ) (times : ℕ → Float) (clock : Float) : Type 0 where
  pub clock_least : T (le slowest clock)
  pub clock_most : T (le clock fastest)
  pub least : (j : ℕ) → j < n → T (le zero64 (times j))
  pub most : (j : ℕ) → j < n → T (le (times j) latest)
  pub rises : (j : ℕ) → suc j < n → lt (times (suc j)) (times j) ≡ false
  pub short : T (le ((times (n - 1) ⊘ clock) ⊖ (times 1 ⊘ clock)) longest)

-- ---- a time: finite and not below zero, -0 included
pub data Time : Float → Type 0 where
  time : (m : ℕ) (e : ℤ) → m * up e ≤ 10000000 * down e → Time (fin false m e)
  minus : (e : ℤ) → Time (fin true 0 e)

latest_is : latest ≡ fin false 78125 (pos 7)
unfolding Ieee.of_bits
latest_is = refl

no_eq : (a : ℕ) (b : ℕ) (t : Bool) → a ≡ 0 → 0 < b → T (eqb a b && t) → ⊥
no_eq a b t z p h =
    let e = eqb→eq a b (and_l (eqb a b) t h) in
    omega (arith, e)

time_at : (t : Float) → T (le (fin false 0 (pos 0)) t) → T (le t (fin false 78125 (pos 7))) → Time t
unfolding le lt eq
time_at nan h k = absurd h
time_at (inf true) h k = absurd h
time_at (inf false) h k = absurd k
time_at (fin true zero e) h k = minus e
time_at (fin true (suc m) e) h k = absurd (no_eq (0 * 1 * down e) (suc m * up e * 1) _ (zero-mul (down e)) (mul-pos (mul-pos (zero-lt-suc m) (up_pos e)) (lit< tt)) h)
time_at (fin false m e) h k = time m e (le_trans (le_of_eq (sym (mul-one (m * up e)))) (le_cross m e 78125 (pos 7) k))

-- ---- a time that isn't below another, as fractions
not_below : {x y : Float} → Time x → Time y → lt y x ≡ false → num x * den y ≤ num y * den x
unfolding lt
not_below {y = y} (minus e) v h = le_trans (le_of_eq (ap (λ (z : ℕ). z * den y) (zero-mul (up e)) ∙ zero-mul (den y))) zero-le
not_below (time m e l) (time n d k) h = ltb-false (n * up d * down e) (m * up e * down d) h
not_below (time m e l) (minus d) h =
    let z = ltb-false 0 (0 * up d * down e + m * up e * down d) h in
    le_trans (le-add_left (m * up e * down d) (0 * up d * down e)) (le_trans z zero-le)

-- ---- -0, and comparisons
minus_one : round binary64 true 0 1 ≡ fin true 0 (pos 0)
unfolding round
minus_one = refl

minus_not : (x : Float) (w : ℕ) → HasValue x false w 1 → lt x (fin true 0 (pos 0)) ≡ false
unfolding lt
minus_not nan w v = absurd v
minus_not (inf s) w v = absurd v
minus_not (fin true m e) w v = absurd (true≢false v.0)
minus_not (fin false m e) w v = refl

never_above_zero : (x : Float) (w : ℕ) → HasValue x false w 1 → lt x (fin false 0 (pos 0)) ≡ false
unfolding lt
never_above_zero nan w v = absurd v
never_above_zero (inf s) w v = absurd v
never_above_zero (fin true m e) w v = absurd (true≢false v.0)
never_above_zero (fin false m e) w v = le-ltb (m * up e * 1) (0 * 1 * down e) (le_trans (le_of_eq (zero-mul (down e))) zero-le)

zero_not : (w : ℕ) → w ≤ 2 ^ 53 → (x : Float) (y : Held x 0) → lt (whole w) x ≡ false
zero_not w f x y = go (lt (whole w) (fin false y.m y.e)) refl
  where
    go : (b : Bool) → lt (whole w) (fin false y.m y.e) ≡ b → lt (whole w) x ≡ false
    go true t = absurd (not-le_of_lt (whole_lt y.m y.e (whole w) w (round_whole binary64 false w f) t) (le_trans y.most (le_trans (le_of_eq (zero-mul (down y.e))) zero-le)))
    go false t = ap (lt (whole w)) y.is ∙ t

sub-minus : (m : ℕ) (e : ℤ) → sub binary64 (fin false m e) (fin true 0 (pos 0)) ≡ sub binary64 (fin false m e) (fin false 0 (pos 0))
unfolding sub add neg sum
sub-minus m e =
    let z : 0 * 1 * down e ≡ 0 = zero-mul (down e) in
    ap (λ (k : ℕ). round binary64 false (m * up e * 1 + k) (down e * 1)) z
    ∙ ap (λ (k : ℕ). round binary64 false k (down e * 1)) (add-zero (m * up e * 1))
    ∙ sym (ap (λ (k : ℕ). cond (ltb (m * up e * 1) k) (round binary64 true (k - m * up e * 1) (down e * 1)) (round binary64 false (m * up e * 1 - k) (down e * 1))) z
    ∙ ap (λ (b : Bool). cond b (round binary64 true (0 - m * up e * 1) (down e * 1)) (round binary64 false (m * up e * 1 - 0) (down e * 1))) (le-ltb (m * up e * 1) 0 zero-le)
    ∙ ap (λ (k : ℕ). round binary64 false k (down e * 1)) (sub-zero (m * up e * 1)))

-- no more than 3,000,000 is not above it
limit_is : longest ≡ fin false 46875 (pos 6)
unfolding Ieee.of_bits
limit_is = refl

not_more_at : (x : Float) → T (le x (fin false 46875 (pos 6))) → lt (fin false 46875 (pos 6)) x ≡ false
unfolding le lt eq
not_more_at nan h = absurd h
not_more_at (inf true) h = refl
not_more_at (inf false) h = absurd h
not_more_at (fin true m e) h = refl
not_more_at (fin false m e) h = le-ltb _ _ (le_cross m e 46875 (pos 6) h)

not_more : (x : Float) → T (le x longest) → lt longest x ≡ false
not_more x h = ap (λ (y : Float). lt y x) limit_is ∙ not_more_at x (subst (λ (y : Float). T (le x y)) limit_is h)

-- ---- a start by the clock rate n / d
module _ (n : ℕ) (d : ℤ) (some : 0 < n) (slow : down d ≤ n * up d * 4) where
  -- its size
  abbrev part : ℕ → ℕ → Float
  part a b = round binary64 false (a * down d) (n * up d * b)

  eqb_no : eqb n 0 ≡ false
  eqb_no = ne_eqb n 0 (λ e. not-le_of_lt some (le_of_eq e))

  rate_pos : (b : ℕ) → 0 < b → 0 < n * up d * b
  rate_pos b h = mul-pos (mul-pos some (up_pos d)) h

  div_time : (m : ℕ) (e : ℤ) → div binary64 (fin false m e) (fin false n d) ≡ part (m * up e) (down e)
  unfolding div
  div_time m e = ap (λ (b : Bool). cond b (cond (eqb m 0) nan (inf false)) (part (m * up e) (down e))) eqb_no

  round_minus : (b : ℕ) → 0 < b → round binary64 true 0 b ≡ fin true 0 (pos 0)
  round_minus b h = round_same binary64 true 0 b 0 1 h (lit< tt) (zero-mul 1 ∙ sym (zero-mul b)) ∙ minus_one

  div-minus : (e : ℤ) → div binary64 (fin true 0 e) (fin false n d) ≡ fin true 0 (pos 0)
  unfolding div
  div-minus e =
      ap (λ (b : Bool). cond b (cond true nan (inf true)) (round binary64 true (0 * up e * down d) (n * up d * down e))) eqb_no
      ∙ ap (λ (z : ℕ). round binary64 true z (n * up d * down e)) (ap (λ (z : ℕ). z * down d) (zero-mul (up e)) ∙ zero-mul (down d))
      ∙ round_minus (n * up d * down e) (rate_pos (down e) (down_pos e))

  within : (a b : ℕ) → a ≤ 10000000 * b → a * down d ≤ 40000000 * (n * up d * b)
  within a b h = le_trans (mul-le-mul_right (down d) h) (le_trans (mul-le-mul_left (10000000 * b) slow) (le_of_eq (shuffle b (n * up d))))
    where
      shuffle : (b r : ℕ) → 10000000 * b * (r * 4) ≡ 40000000 * (r * b)
      shuffle b r = sym (mul_assoc (10000000 * b) r 4) ∙ ap (λ (z : ℕ). z * 4) (mul_assoc 10000000 b r) ∙ ap (λ (z : ℕ). 10000000 * z * 4) (mul_comm b r) ∙ quadruple (r * b)
        where
          quadruple : (z : ℕ) → 10000000 * z * 4 ≡ 40000000 * z
          quadruple z = omega arith

  held_part : (a b : ℕ) → 0 < b → a ≤ 10000000 * b → Held (part a b) 40000000
  held_part a b B h = held (a * down d) (n * up d * b) 40000000 (rate_pos b B) (lit≤ tt) (within a b h)

  bound : {t : Float} → Time t → num t ≤ 10000000 * den t
  bound (time m e l) = l
  bound (minus e) = le_trans (le_of_eq (zero-mul (up e))) zero-le

  -- the end of the first section, and the first start by its size
  first : {t : Float} → Time t → First (div binary64 t (fin false n d))
  first (time m e l) =
      let y = held_part (m * up e) (down e) (down_pos e) l in
      subst First (sym (div_time m e ∙ y.is)) (first_of y.m y.e y.most)
  first (minus e) = subst First (sym (div-minus e)) first_zero

  module _ (w : ℕ) (f : w ≤ 2 ^ 53) where
    -- a start isn't above w where its size isn't
    by_size : {t : Float} → Time t → lt (whole w) (part (num t) (den t)) ≡ false → lt (whole w) (div binary64 t (fin false n d)) ≡ false
    by_size (time m e l) h = ap (lt (whole w)) (div_time m e) ∙ h
    by_size (minus e) h = ap (lt (whole w)) (div-minus e) ∙ minus_not (whole w) w (round_whole binary64 false w f)

    not_above : (x : Float) (y : Held x 40000000) → y.m * up y.e ≤ w * down y.e → lt (whole w) x ≡ false
    not_above x y h = go (lt (whole w) (fin false y.m y.e)) refl
      where
        go : (b : Bool) → lt (whole w) (fin false y.m y.e) ≡ b → lt (whole w) x ≡ false
        go true t = absurd (not-le_of_lt (whole_lt y.m y.e (whole w) w (round_whole binary64 false w f) t) h)
        go false t = ap (lt (whole w)) y.is ∙ t

    -- a size isn't above w where a larger one isn't
    smaller : (a b a' b' : ℕ) → 0 < b → 0 < b' → a ≤ 10000000 * b → a' ≤ 10000000 * b' → a * b' ≤ a' * b → lt (whole w) (part a' b') ≡ false → lt (whole w) (part a b) ≡ false
    smaller a b a' b' B B' h h' l k =
        let x = held_part a b B h in
        let y = held_part a' b' B' h' in
        let r = round_mono binary64 (a * down d) (n * up d * b) (a' * down d) (n * up d * b') (rate_pos b B) (rate_pos b' B') (le_trans (le_of_eq (swap a b' (down d) (n * up d))) (le_trans (mul-le-mul_right (down d * (n * up d)) l) (le_of_eq (sym (swap a' b (down d) (n * up d)))))) in
        let c = le_cross x.m x.e y.m y.e (subst (λ (z : Float). T (le z (fin false y.m y.e))) x.is (subst (λ (z : Float). T (le (part a b) z)) y.is r)) in
        let u = whole_ge y.m y.e (whole w) w (round_whole binary64 false w f) (ap (lt (whole w)) (sym y.is) ∙ k) in
        not_above (part a b) x (le_of_mul-le-mul_right (le_trans c (le_trans (mul-le-mul_right (down x.e) u) (le_of_eq (mul_right_comm w (down y.e) (down x.e))))) (down_pos y.e))
      where
        swap : (a b r s : ℕ) → a * r * (s * b) ≡ a * b * (r * s)
        swap a b r s = simp (mul_assoc, mul_comm, mul_left_comm)

  -- the last start's size isn't above 400 × (q + 8191)
  last_size : {t u : Float} → Time t → Time u → (z : First (div binary64 t (fin false n d)))
      → T (le (sub binary64 (div binary64 u (fin false n d)) (div binary64 t (fin false n d))) longest) → lt (whole (400 * (z.q + 8191))) (part (num u) (den u)) ≡ false
  last_size v (minus e) z h =
      let g = held 0 (n * up d * down e) 0 (rate_pos (down e) (down_pos e)) zero-le zero-le in
      ap (lt (whole (400 * (z.q + 8191)))) (ap (λ (k : ℕ). round binary64 false k (n * up d * down e)) (ap (λ (k : ℕ). k * down d) (zero-mul (up e)) ∙ zero-mul (down d)))
      ∙ zero_not (400 * (z.q + 8191)) z.room (round binary64 false 0 (n * up d * down e)) g
  last_size (time m e l) (time m' e' l') z h =
      let x = held_part (m * up e) (down e) (down_pos e) l in
      let y = held_part (m' * up e') (down e') (down_pos e') l' in
      let i = div_time m e ∙ x.is in
      let j = div_time m' e' ∙ y.is in
      let near : lt (whole (400 * (z.q + 1))) (fin false x.m x.e) ≡ false = ap (lt (whole (400 * (z.q + 1)))) (sym i) ∙ z.near in
      let s : T (le (sub binary64 (fin false y.m y.e) (fin false x.m x.e)) longest) = subst (λ (k : Float). T (le (sub binary64 (fin false y.m y.e) k) longest)) i (subst (λ (k : Float). T (le (sub binary64 k (div binary64 (fin false m e) (fin false n d))) longest)) j h) in
      ap (lt (whole (400 * (z.q + 8191)))) y.is ∙ span z.q x.m x.e y.m y.e z.room near (not_more _ s)
  last_size (minus e) (time m' e' l') z h =
      let y = held_part (m' * up e') (down e') (down_pos e') l' in
      let i = div-minus e in
      let j = div_time m' e' ∙ y.is in
      let near : lt (whole (400 * (z.q + 1))) (fin false 0 (pos 0)) ≡ false = never_above_zero (whole (400 * (z.q + 1))) _ (round_whole binary64 false _ (less z.q z.room)) in
      let s : T (le (sub binary64 (fin false y.m y.e) (fin true 0 (pos 0))) longest) = subst (λ (k : Float). T (le (sub binary64 (fin false y.m y.e) k) longest)) i (subst (λ (k : Float). T (le (sub binary64 k (div binary64 (fin true 0 e) (fin false n d))) longest)) j h) in
      ap (lt (whole (400 * (z.q + 8191)))) y.is ∙ span z.q 0 (pos 0) y.m y.e z.room near (not_more _ (subst (λ (k : Float). T (le k longest)) (sub-minus y.m y.e) s))
    where
      less : (q : ℕ) → 400 * (q + 8191) ≤ 2 ^ 53 → 400 * (q + 1) ≤ 2 ^ 53
      less q h = omega arith

  -- the clock rate and the starts of a chart
  module _ (N : ℕ) (times : ℕ → Float) (p : Passes N times (fin false n d)) (two : 2 ≤ N) where
    is_time : (j : ℕ) → j < N → Time (times j)
    is_time j h = time_at (times j) (subst (λ (x : Float). T (le x (times j))) zero_is (p.least j h)) (subst (λ (x : Float). T (le (times j) x)) latest_is (p.most j h))

    rising : (i j l : ℕ) → l ≡ j + i → l < N → num (times j) * den (times l) ≤ num (times l) * den (times j)
    rising zero j l e h =
        let k : j ≡ l = omega arith in
        subst (λ (z : ℕ). num (times j) * den (times z) ≤ num (times z) * den (times j)) k (le_refl _)
    rising (suc i) j l e h =
        let k : suc (l - 1) ≡ l = omega arith in
        let b : l - 1 ≡ j + i = omega arith in
        let c : l - 1 < N = omega arith in
        let g : suc (l - 1) < N = omega arith in
        let r = rising i j (l - 1) b c in
        let s = not_below (is_time (l - 1) c) (is_time (suc (l - 1)) g) (p.rises (l - 1) g) in
        subst (λ (z : ℕ). num (times j) * den (times z) ≤ num (times z) * den (times j)) k
        (through (num (times j)) (num (times (l - 1))) (num (times (suc (l - 1)))) (den (times j)) (den (times (l - 1))) (den (times (suc (l - 1)))) (den_pos (times (l - 1))) r s)

    enough_at : (k : Skill) (starts strains : ℕ → Float) → ((j : ℕ) → 1 ≤ j → starts j ≡ times j ⊘ fin false n d) → (j : ℕ) → suc j < N
        → lt (reached k starts strains (suc j) (walk k starts strains j)).end (starts (suc j)) ≡ false
    enough_at k starts strains a j h =
        let h1 : 1 < N = two in
        let hl : N - 1 < N = omega arith in
        let z = first (is_time 1 h1) in
        let w = 400 * (z.q + 8191) in
        let L = last_size (is_time 1 h1) (is_time (N - 1) hl) z p.short in
        settled_at z.q k starts strains z.room (subst (λ (x : Float). EndAt (400 * z.q) (first_end x)) (sym (a 1 (omega arith))) z.end) j (λ i b c. all w z.room L i b (omega arith))
      where
        all : (w : ℕ) → w ≤ 2 ^ 53 → lt (whole w) (part (num (times (N - 1))) (den (times (N - 1)))) ≡ false → (i : ℕ) → 1 ≤ i → i < N → lt (whole w) (starts i) ≡ false
        all w f L i b h =
            let l = N - 1 in
            let hl : l < N = omega arith in
            let e : l ≡ i + (l - i) = omega arith in
            ap (lt (whole w)) (a i b)
            ∙ by_size w f (is_time i h) (smaller w f (num (times i)) (den (times i)) (num (times l)) (den (times l)) (den_pos (times i)) (den_pos (times l)) (bound (is_time i h)) (bound (is_time l hl)) (rising (l - i) i l e hl) L)

-- ---- the clock rate is from 0.25 to 4
record Rate (clock : Float) : Type 0 where
  n : ℕ
  d : ℤ
  is : clock ≡ fin false n d
  some : 0 < n
  slow : down d ≤ n * up d * 4

quarter_is : slowest ≡ fin false 1 (negsuc 1)
unfolding Ieee.of_bits
quarter_is = refl

four_is : fastest ≡ fin false 1 (pos 2)
unfolding Ieee.of_bits
four_is = refl

rate_at : (c : Float) → T (le (fin false 1 (negsuc 1)) c) → T (le c (fin false 1 (pos 2))) → Rate c
unfolding le lt eq
rate_at nan h k = absurd h
rate_at (inf true) h k = absurd h
rate_at (inf false) h k = absurd k
rate_at (fin true n d) h k = absurd (above_of_le (fin false 1 (negsuc 1)) (fin true n d) tt h)
rate_at (fin false n d) h k = record {
  n = n;
  d = d;
  is = refl;
  some = ltb→lt 0 n (above_of_le (fin false 1 (negsuc 1)) (fin false n d) tt h);
  slow = le_trans (le_of_eq (sym (one-mul (down d)))) (le_cross 1 (negsuc 1) n d h);
}

-- on every chart that passes `close_to` never stops for its bound: before place j + 1 joins, its start isn't above its section's end
pub enough : (n : ℕ) (times : ℕ → Float) (clock : Float) → Passes n times clock → (k : Skill) (starts strains : ℕ → Float) → ((j : ℕ) → 1 ≤ j → starts j ≡ times j ⊘ clock)
    → (j : ℕ) → suc j < n → lt (reached k starts strains (suc j) (walk k starts strains j)).end (starts (suc j)) ≡ false
enough n times clock p k starts strains a j h =
    let r = rate_at clock (subst (λ (x : Float). T (le x clock)) quarter_is p.clock_least) (subst (λ (x : Float). T (le clock x)) four_is p.clock_most) in
    enough_at r.n r.d r.some r.slow n times (subst (Passes n times) r.is p) (omega arith) k starts strains (λ i b. a i b ∙ ap (λ (x : Float). times i ⊘ x) r.is) j h
