-- Facts of lists for `window`. Assumes nothing.
--     set-slot     of n + 1 times d and then zs, entry n set
--     Filled       a window that is filled from its end: the slots from `left` on hold what they are to hold
--     slot_is      slot k of a window is the record k places after the first
use mathlib.Core.Path.{◌≡◌, refl, sym, ap, ◌∙◌}
use Prim.Native.Nat.{ℕ, zero, suc, ◌<◌, ◌+◌}
use native.Mathlib.Omega.{arith}
use mathlib.Core.List.{List, [], ◌∷◌, ◌++◌}
use mathlib.Core.Logic.{inl, inr}
use native.Mathlib.Nat.{not-suc-le-zero, le_of_suc-le-suc, eq-or-lt_of_le}
use lib.ListN.{get_or, replicate, set}
use Prim.Native.Nat.{◌≤◌, ◌-◌}
use Rattle.std.proofs.Common.{slice_set}
use native.Mathlib.Numerals.{unary_clauses}
use Rattle.osu_difficulty_object.specs.declared.OsuDifficultyObject.{OsuDifficultyObject as Record}
use Rattle.osu_records.specs.Part.{first_place}
use Rattle.eval_outer.specs.Records.{record_of, slots, slot_at, window_of}

pub set_slot : {X : Type 0} (n : ℕ) (d r : X) (zs : List X) → set (replicate (suc n) d ++ zs) n r ≡ replicate n d ++ (r ∷ zs)
set_slot zero d r zs = refl
set_slot {X} (suc n) d r zs = ap (λ (ws : List X). d ∷ ws) (set_slot n d r zs)

-- w is d in the slots before `left`, and holds g's from there on
pub record Filled (g : ℕ → Record) (d : Record) (left : ℕ) (w : List Record) : Type 0 where
  pub low : left ≤ 34
  pub rest : List Record
  pub is : w ≡ replicate left d ++ rest
  pub all : slots g left rest ≡ slots g 34 []

pub filled_none : (g : ℕ → Record) (d : Record) (w : List Record) → w ≡ replicate 34 d → Filled g d 34 w
filled_none g d w e = record { low = omega arith; rest = []; is = e; all = refl }

less : (n : ℕ) → suc n ≤ 34 → n ≤ 34
less n h = omega arith

one_more : (g : ℕ → Record) (d r : Record) (n : ℕ) (w : List Record) → r ≡ g n → Filled g d (suc n) w → Filled g d n (slice_set w n r)
one_more g d r n w e f = record {
  low = less n f.low;
  rest = r ∷ f.rest;
  is = ap (λ (v : List Record). set v n r) f.is ∙ set_slot n d r f.rest;
  all = ap (λ (x : Record). slots g n (x ∷ f.rest)) e ∙ f.all;
}

pub filled_more : (g : ℕ → Record) (d r : Record) (left : ℕ) (w : List Record) → 0 < left → r ≡ g (left - 1) → Filled g d left w → Filled g d (left - 1) (slice_set w (left - 1) r)
filled_more g d r zero w h e f = absurd (not-suc-le-zero h)
filled_more g d r (suc n) w h e f = simp unary_clauses (one_more g d r n w (simp unary_clauses at e) f)

pub filled_all : (g : ℕ → Record) (d : Record) (left : ℕ) (w : List Record) → left ≤ 0 → Filled g d left w → w ≡ slots g 34 []
filled_all g d zero w h f = f.is ∙ f.all
filled_all g d (suc n) w h f = absurd (not-suc-le-zero h)

-- past the slots stand zs
past : (g : ℕ → Record) (n k : ℕ) (zs : List Record) (d : Record) → get_or (slots g n zs) (n + k) d ≡ get_or zs k d
past g zero k zs d = ap (λ (j : ℕ). get_or zs j d) (from_zero k)
  where
    from_zero : (k : ℕ) → zero + k ≡ k
    from_zero k = omega arith
past g (suc n) k zs d = ap (λ (j : ℕ). get_or (slots g n (g n ∷ zs)) j d) (one_on n k) ∙ past g n (suc k) (g n ∷ zs) d
  where
    one_on : (n k : ℕ) → suc n + k ≡ n + suc k
    one_on n k = omega arith

at_slot : (g : ℕ → Record) (n k : ℕ) (zs : List Record) (d : Record) → k < n → get_or (slots g n zs) k d ≡ g k
at_slot g zero k zs d h = absurd (not-suc-le-zero h)
at_slot g (suc n) k zs d h = elim (eq-or-lt_of_le (le_of_suc-le-suc h)) [ inl e ↦ ap (λ (j : ℕ). get_or (slots g n (g n ∷ zs)) j d) (e ∙ plus_none n) ∙ past g n zero (g n ∷ zs) d ∙ ap g (sym e) | inr l ↦ at_slot g n k (g n ∷ zs) d l ]
  where
    plus_none : (n : ℕ) → n ≡ n + zero
    plus_none n = omega arith

pub slot_is : (rs : List Record) (j k : ℕ) → k < 34 → slot_at (window_of rs j) k ≡ record_of rs (first_place j + k)
slot_is rs j k h = at_slot (λ i. record_of rs (first_place j + i)) 34 k [] _ h
