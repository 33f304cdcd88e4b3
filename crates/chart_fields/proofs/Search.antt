-- A loop that looks for the lowest place at which a test holds: its invariant, its start, a place found, a place passed, its end.
-- Assumes nothing.
use Prim.Native.Nat.{ℕ, zero, suc, ◌+◌, ◌-◌, ◌≤◌, ◌<◌}
use mathlib.Core.Path.{◌≡◌, refl, ◌∙◌, sym, ap, subst}
use mathlib.Core.Bool.{Bool, true, false}
use native.Mathlib.Decide.{dec_le}
use native.Mathlib.Numerals.{add-one}
use native.Mathlib.Omega.{arith}
use Rattle.chart_fields.specs.Search.{first_from, first_below}

-- places below i are passed
pub record Passed (bad : ℕ → Bool) (n i : ℕ) : Type 0 where
  pub within : i ≤ n
  pub rest : first_from bad (n - i) i ≡ first_below bad n

pub begin : (bad : ℕ → Bool) (n : ℕ) → Passed bad n 0
unfolding first_below
begin bad n = record { within = omega arith; rest = ap (λ (k : ℕ). first_from bad k 0) (omega arith) }

here : (bad : ℕ → Bool) (k i : ℕ) → bad i ≡ true → first_from bad (suc k) i ≡ i
unfolding first_from
here bad k i e = rw (e, first_from)

next : (bad : ℕ → Bool) (k i : ℕ) → bad i ≡ false → first_from bad (suc k) i ≡ first_from bad k (suc i)
unfolding first_from
next bad k i e = rw (e, first_from)

split : (n i : ℕ) → i < n → n - i ≡ suc (n - (i + 1))
split n i h = omega arith

pub found : {bad : ℕ → Bool} {n i : ℕ} → Passed bad n i → i < n → bad i ≡ true → i ≡ first_below bad n
found {bad} {n} {i} p h e = sym (here bad (n - (i + 1)) i e) ∙ ap (λ (k : ℕ). first_from bad k i) (sym (split n i h)) ∙ p.rest

pub passed : {bad : ℕ → Bool} {n i : ℕ} → Passed bad n i → i < n → bad i ≡ false → Passed bad n (i + 1)
passed {bad} {n} {i} p h e =
    record {
      within = omega arith;
      rest =
          ap (λ (j : ℕ). first_from bad (n - (i + 1)) j) (add-one i)
          ∙ sym (next bad (n - (i + 1)) i e)
          ∙ ap (λ (k : ℕ). first_from bad k i) (sym (split n i h))
          ∙ p.rest;
    }

pub none : {bad : ℕ → Bool} {n i : ℕ} → Passed bad n i → n ≤ i → i ≡ first_below bad n
unfolding first_from
none {bad} {n} {i} p h =
    let z : n - i ≡ 0 = omega arith in
    sym (ap (λ (k : ℕ). first_from bad k i) z) ∙ p.rest

-- ---- laws of the lowest place

pass_all : (bad : ℕ → Bool) (n i : ℕ) → i ≤ n → ((j : ℕ) → j < i → bad j ≡ false) → Passed bad n i
pass_all bad n zero h f = begin bad n
pass_all bad n (suc i) h f =
    subst (λ (k : ℕ). Passed bad n k) (add-one i)
    (passed (pass_all bad n i (omega arith) (λ j l. f j (omega arith))) (omega arith) (f i (omega arith)))

-- the place, where the test holds there and at none below
pub first_is : (bad : ℕ → Bool) (n p : ℕ) → p < n → ((j : ℕ) → j < p → bad j ≡ false) → bad p ≡ true → first_below bad n ≡ p
first_is bad n p h f e = sym (found (pass_all bad n p (omega arith) f) h e)

-- n, where it holds at none
pub first_none : (bad : ℕ → Bool) (n : ℕ) → ((j : ℕ) → j < n → bad j ≡ false) → first_below bad n ≡ n
first_none bad n f = sym (none (pass_all bad n n (omega arith) f) (omega arith))

nowhere : (bad : ℕ → Bool) (i : ℕ) → first_from bad zero i ≡ i
unfolding first_from
nowhere bad i = refl

clean_from : (bad : ℕ → Bool) (k i j : ℕ) → i ≤ j → j < first_from bad k i → bad j ≡ false
clean_from bad zero i j h l = absurd (omega (arith, nowhere bad i))
clean_from bad (suc k) i j h l = go (bad i) refl (clean_from bad k (suc i) j) (dec_le (suc i) j)
  where
    go : (b : Bool) → bad i ≡ b → (suc i ≤ j → j < first_from bad k (suc i) → bad j ≡ false) → Dec (suc i ≤ j) → bad j ≡ false
    go true e f d = absurd (omega (arith, here bad k i e))
    go false e f (yes m) = f m (omega (arith, next bad k i e))
    go false e f (no m) = let z : j ≡ i = omega arith in ap bad z ∙ e

-- below the lowest place the test holds nowhere
pub clean : (bad : ℕ → Bool) (n j : ℕ) → j < first_below bad n → bad j ≡ false
unfolding first_below
clean bad n j h = clean_from bad n 0 j (omega arith) h

-- two tests that agree below n
from_same : (bad bad' : ℕ → Bool) (k i : ℕ) → ((j : ℕ) → j < i + k → bad j ≡ bad' j) → first_from bad k i ≡ first_from bad' k i
unfolding first_from
from_same bad bad' zero i f = refl
from_same bad bad' (suc k) i f = cc (f i (omega arith), from_same bad bad' k (suc i) (λ j l. f j (omega arith)))

pub first_same : (bad bad' : ℕ → Bool) (n : ℕ) → ((j : ℕ) → j < n → bad j ≡ bad' j) → first_below bad n ≡ first_below bad' n
unfolding first_below
first_same bad bad' n f = from_same bad bad' n 0 (λ j l. f j (omega arith))
