-- The conditions of an insertion from the answer of opening, whose tables need an entry less. Assumes nothing.
use Rattle.std.specs.Prelude.{Ok, Err}
use Prim.Native.Nat.{ℕ, ◌+◌, ◌≤◌, ◌<◌}
use mathlib.Core.Path.{◌≡◌, refl, sym, ◌∙◌}
use mathlib.Core.Bool.{Bool, true, false}
use mathlib.Core.List.{List, [], ◌∷◌, ◌++◌}
use lib.Dec.{ltb}
use native.Mathlib.Omega.{arith}
use borrow.Author.Tests.{ltb-true, lt-ltb, le-ltb}
use Rattle.chart_opening.specs.Header.{layout_of}
use Rattle.chart_opening.specs.Accepted.{first_refused, first_passed}
use Rattle.chart_opening.specs.Conditions.{refuse_if, first_of, chart_conditions, Opens, too_few, open_conditions, open_verdict}
use Rattle.chart_opening.specs.declared.Refusal.{Refusal}
use Rattle.chart_opening.specs.declared.Refusal.TheVariants.{Table}
use Rattle.chart_opening.specs.Verdict.{Verdict}
use Rattle.chart_inserting.specs.Insert.{insert_place_conditions, insert_conditions, insert_verdict}

-- a table that is too short for n entries is too short for one more
too_few_more : (entries n : ℕ) (r : Refusal) → first_of (too_few entries n ∷ []) ≡ Err r → first_of (too_few entries (n + 1) ∷ []) ≡ Err r
unfolding first_of
too_few_more entries n r = go (ltb entries n) refl
  where
    go : (b : Bool) → ltb entries n ≡ b → first_of (refuse_if b Table ∷ []) ≡ Err r → first_of (too_few entries (n + 1) ∷ []) ≡ Err r
    go true t e = simp (lt-ltb entries (n + 1) (omega (arith, ltb-true entries n t))) e
    go false t e = cc

module _ (s : List ℕ) (place : ℕ) (object : List ℕ) (entries : ℕ) where
  tables : List Verdict
  tables = too_few entries ((layout_of s).n + 1) ∷ []

  pub refused : (r : Refusal) → open_verdict s entries ≡ Err r → insert_verdict s place object entries ≡ Err r
  unfolding open_conditions insert_conditions tables
  refused r given = first_refused (chart_conditions s ++ tables) (insert_place_conditions s place object) r (go (first_of (chart_conditions s)) refl)
    where
      go : (v : Verdict) → first_of (chart_conditions s) ≡ v → first_of (chart_conditions s ++ tables) ≡ Err r
      go (Ok tt) e =
          first_passed (chart_conditions s) tables e
          ∙ too_few_more entries (layout_of s).n r (sym (first_passed (chart_conditions s) (too_few entries (layout_of s).n ∷ []) e) ∙ given)
      go (Err q) e =
          first_refused (chart_conditions s) tables q e
          ∙ (sym (first_refused (chart_conditions s) (too_few entries (layout_of s).n ∷ []) q e) ∙ given)

  module _ (o : Opens s) where
    pub short : entries < (layout_of s).n + 1 → insert_verdict s place object entries ≡ Err Table
    unfolding insert_conditions tables first_of
    short l =
        first_refused (chart_conditions s ++ tables) (insert_place_conditions s place object) Table
        (first_passed (chart_conditions s) tables o ∙ simp (lt-ltb entries ((layout_of s).n + 1) l))

    pub passed : (layout_of s).n + 1 ≤ entries → insert_verdict s place object entries ≡ first_of (insert_place_conditions s place object)
    unfolding insert_conditions tables first_of
    passed l =
        first_passed (chart_conditions s ++ tables) (insert_place_conditions s place object)
        (first_passed (chart_conditions s) tables o ∙ simp (le-ltb entries ((layout_of s).n + 1) l))
