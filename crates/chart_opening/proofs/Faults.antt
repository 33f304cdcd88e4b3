-- A chart in which no object meets condition 3, 4 or 5 meets none of the three; what a walk over the objects knows of the place that it has come to. Assumes nothing.
use Prim.Native.Nat.{ℕ, ◌+◌, ◌-◌, ◌≤◌, ◌<◌}
use mathlib.Core.Path.{◌≡◌, sym, ap, ◌∙◌}
use mathlib.Core.Bool.{Bool, true, false, not, ◌&&◌, ◌||◌, or-true}
use mathlib.Mathlib.Data.Bool.Basic.{or-eq-false-eq-eq-false-and-eq-false as neither}
use mathlib.Core.List.{List}
use native.Mathlib.Decide.{dec_le}
use native.Mathlib.Omega.{arith}
use lib.Dec.{ltb}
use lib.Ieee as Ieee
use lib.Ieee.{Float}
use borrow.Author.Tests.{le-ltb}
use Rattle.chart_fields.specs.Search.{first_below}
use Rattle.chart_fields.specs.Objects.{fields_of, fields_ok, bad_fields, falls}
use Rattle.chart_fields.specs.declared.Fields.{Fields}
use Rattle.chart_fields.specs.declared.Layout.{Layout}
use Rattle.chart_fields.proofs.Search.{Passed, passed, first_none, clean}
use Rattle.chart_entries.specs.Entries.{bad_entries}
use Rattle.chart_opening.specs.Conditions.{at_fault}

module _ (s : List ℕ) (lay : Layout) (h : lay.n ≤ first_below (at_fault s lay) lay.n) where
  at : (j : ℕ) → j < lay.n → ((bad_fields s lay j ≡ false) × (falls s lay j ≡ false)) × (bad_entries s lay j ≡ false)
  unfolding at_fault
  at j l =
      let (own, entries) = (neither (bad_fields s lay j || falls s lay j) (bad_entries s lay j)).0 (clean (at_fault s lay) lay.n j (omega arith)) in
      ((neither (bad_fields s lay j) (falls s lay j)).0 own, entries)

  pub no_bad_fields : first_below (bad_fields s lay) lay.n ≡ lay.n
  no_bad_fields = first_none (bad_fields s lay) lay.n (λ j l. (at j l).0.0)

  pub no_bad_entries : first_below (bad_entries s lay) lay.n ≡ lay.n
  no_bad_entries = first_none (bad_entries s lay) lay.n (λ j l. (at j l).1)

  pub no_falls : first_below (falls s lay) lay.n ≡ lay.n
  no_falls = first_none (falls s lay) lay.n (λ j l. (at j l).0.1)

-- places below i are passed, and the one before i, if there is one, started at last
pub record Walked (s : List ℕ) (lay : Layout) (n i : ℕ) (last : Float) : Type 0 where
  pub places : Passed (at_fault s lay) n i
  pub before : 0 < i → last ≡ (fields_of s lay (i - 1)).start

module _ {s : List ℕ} {lay : Layout} {n i : ℕ} {last : Float} (w : Walked s lay n i last) where
  falls_after : (ltb 0 i && Ieee.lt (fields_of s lay i).start last) ≡ falls s lay i
  unfolding falls
  falls_after = go (dec_le 1 i)
    where
      go : Dec (1 ≤ i) → (ltb 0 i && Ieee.lt (fields_of s lay i).start last) ≡ (ltb 0 i && Ieee.lt (fields_of s lay i).start (fields_of s lay (i - 1)).start)
      go (yes l) = ap (λ (x : Float). ltb 0 i && Ieee.lt (fields_of s lay i).start x) (w.before (omega arith))
      go (no l) = simp (le-ltb 0 i (omega arith))

  module _ {f : Fields} {ok : Bool} (e : f ≡ fields_of s lay i) (k : ok ≡ fields_ok f) where
    tested : (not ok || (ltb 0 i && Ieee.lt f.start last)) ≡ (bad_fields s lay i || falls s lay i)
    unfolding bad_fields
    tested = rw (k, e) (ap (λ (b : Bool). not (fields_ok (fields_of s lay i)) || b) falls_after)

    -- the test of conditions 3 and 5 finds a fault
    pub fault : (not ok || (ltb 0 i && Ieee.lt f.start last)) ≡ true → at_fault s lay i ≡ true
    unfolding at_fault
    fault t = simp (sym tested ∙ t)

    -- it finds none, and condition 4 is not met
    pub no_fault : i < n → (not ok || (ltb 0 i && Ieee.lt f.start last)) ≡ false → bad_entries s lay i ≡ false → Walked s lay n (i + 1) f.start
    unfolding at_fault
    no_fault h t b = record { places = passed w.places h (simp (sym tested ∙ t, b)); before = λ l. ap (λ (x : Fields). x.start) e ∙ ap (λ (j : ℕ). (fields_of s lay j).start) (omega arith) }

-- condition 4 is met
pub entries_fault : (s : List ℕ) (lay : Layout) (i : ℕ) → bad_entries s lay i ≡ true → at_fault s lay i ≡ true
unfolding at_fault
entries_fault s lay i e = simp e (or-true (bad_fields s lay i || falls s lay i))
