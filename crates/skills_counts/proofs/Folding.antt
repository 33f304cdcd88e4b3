-- The loop of `fold`: what is joined before place j, and the place before. Assumes nothing.
use Prim.Native.Nat.{ℕ, zero, suc, ◌+◌, ◌-◌, ◌≤◌, ◌<◌}
use native.Mathlib.Numerals.{add-one}
use native.Mathlib.Omega.{arith}
use mathlib.Core.Path.{◌≡◌, refl, ap, ◌∙◌, subst}
use mathlib.Core.Bool.{Bool, true, false, cond}
use mathlib.Core.List.{List, ◌∷◌}
use lib.Ieee.{Float}
use Rattle.chart_fields.specs.Objects.{fields_of}
use Rattle.chart_fields.specs.declared.Layout.{Layout}
use Rattle.num_tables.specs.Parts.{row}
use Rattle.skills.specs.declared.Skill.{Skill}
use Rattle.skills.specs.Strains.{current, strain_at}
use Rattle.skills.specs.Chart.{delta_at}
use Rattle.skills_counts.specs.declared.fold.Objects.{Objects}
use Rattle.skills_counts.specs.declared.fold.Place.{Place}
use Rattle.skills_counts.specs.Counts.{list_from}
use Rattle.skills_counts.specs.Fold.{keeps_of, place_zero, place_next, strain_of}
use Rattle.std.specs.List.{FoldsTo}

-- ---- on lists

list_step : (keeps : ℕ → Bool) (f : ℕ → Float) (j n : ℕ) → j < n
    → list_from keeps f j (n - j) ≡ cond (keeps j) (f j ∷ list_from keeps f (suc j) (n - suc j)) (list_from keeps f (suc j) (n - suc j))
unfolding list_from
list_step keeps f j n h = let e : n - j ≡ suc (n - suc j) = omega arith in ap (list_from keeps f j) e

-- ---- on places

module _ (s : List ℕ) (lay : Layout) (clock : Float) (values : List Float) (k : Skill) where
  abbrev pub place_of : ℕ → Place
  place_of j = record { start = (fields_of s lay j).start; current = current (delta_at s lay clock) (row 5 values) k j; strain = strain_of s lay clock values k j }

  place_zero_lem : place_zero s lay ≡ place_of 0
  unfolding current strain_at
  place_zero_lem = refl

  place_next_lem : (j : ℕ) → 1 ≤ j → place_next s lay clock values k (place_of (j - 1)) j ≡ place_of j
  unfolding current strain_at delta_at
  place_next_lem zero h = absurd (omega arith)
  place_next_lem (suc j) h =
      let e : suc j - 1 ≡ j = omega arith in
      rw e

  pub first_is : (r : Place) → r ≡ place_next s lay clock values k (place_zero s lay) 1 → r.strain ≡ strain_of s lay clock values k 1
  first_is r e = ap (λ (p : Place). p.strain) (e ∙ ap (λ (p : Place). place_next s lay clock values k p 1) place_zero_lem ∙ place_next_lem 1 (omega arith))

  module _ (of : Objects) (R : Float → Float → Float → Type 0) (from : Float) (n : ℕ) where
    abbrev pub list : ℕ → List Float
    list j = list_from (keeps_of s lay of) (strain_of s lay clock values k) j (n - j)

    -- what the strains from place j on are joined to comes out as from place 1 on
    pub record Folding (to : Float) (place : Place) (j : ℕ) : Type 0 where
      pub least : 1 ≤ j
      pub place_is : place ≡ place_of (j - 1)
      pub folds : (r : Float) → FoldsTo R to (list j) r → FoldsTo R from (list 1) r

    pub folding_first : (place : Place) → place ≡ place_zero s lay → Folding from place 1
    folding_first place e = record { least = omega arith; place_is = e ∙ place_zero_lem; folds = λ r f. f }

    module _ {to : Float} {place : Place} {j : ℕ} (m : Folding to place j) (h : j < n) (place' : Place) (ep : place' ≡ place_next s lay clock values k place j) where
      here : place' ≡ place_of j
      here = ep ∙ ap (λ (p : Place). place_next s lay clock values k p j) m.place_is ∙ place_next_lem j m.least

      next_with : (to' : Float) → ((r : Float) → FoldsTo R to' (list (suc j)) r → FoldsTo R to (list j) r) → Folding to' place' (j + 1)
      next_with to' f =
          let e : j ≡ j + 1 - 1 = omega arith in
          record { least = omega arith; place_is = here ∙ ap place_of e; folds = λ r g. m.folds r (f r (rw add-one at g)) }

      -- a strain that is kept is joined
      pub folding_kept : true ≡ keeps_of s lay of j → (to' : Float) → R to place'.strain to' → Folding to' place' (j + 1)
      folding_kept b to' t =
          let x : R to (strain_of s lay clock values k j) to' = subst (λ (p : Place). R to p.strain to') here t in
          next_with to' (λ r g. rw (list_step (keeps_of s lay of) (strain_of s lay clock values k) j n h, ← b) (to', x, g))

      pub folding_left : false ≡ keeps_of s lay of j → Folding to place' (j + 1)
      folding_left b = next_with to (λ r g. rw (list_step (keeps_of s lay of) (strain_of s lay clock values k) j n h, ← b) g)

    pub folding_done : {to : Float} {place : Place} {j : ℕ} → Folding to place j → n ≤ j → FoldsTo R from (list 1) to
    unfolding list_from
    folding_done {to} {place} {j} m h =
        let e : n - j ≡ 0 = omega arith in
        m.folds to (rw e refl)

    pub folding_none : n < 2 → FoldsTo R from (list 1) from
    unfolding list_from
    folding_none h = let e : n - 1 ≡ 0 = omega arith in rw e refl
