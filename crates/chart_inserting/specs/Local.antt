-- Conditions 3 to 6 of a chart with one object put in or taken out, from the chart as it was. Where the old chart meets none of them, the first that is met here
-- is the first of the new one's: only what the edit can have changed is tested. Definitions only.
use Rattle.std.specs.Prelude.{ℕ, ◌+◌, ◌-◌, Bool, cond, ◌&&◌, List, [], ◌∷◌, leb, ltb, eqb, Float}
use Rattle.chart_fields.specs.Objects.{fields_of}
use Rattle.chart_fields.specs.declared.Fields.{Fields}
use Rattle.chart_fields.specs.declared.Layout.{Layout}
use Rattle.chart_opening.specs.Header.{far_apart}
use Rattle.chart_opening.specs.Conditions.{refuse_if}
use Rattle.chart_opening.specs.declared.Refusal.TheVariants.{Order, Length}
use Rattle.chart_opening.specs.Verdict.{Verdict}
use Rattle.chart_replacing.specs.Local.{falls_here, object_conditions}

-- ---- Insertion of an object of these fields at a place

-- the start at place j of the new chart
unfoldable pub start_with : List ℕ → Layout → ℕ → Fields → ℕ → Float
start_with s lay place f j = cond (eqb j place) f.start (fields_of s lay (cond (ltb j place) j (j - 1))).start

-- condition 6, for N + 1 from 2
unfoldable pub long_with : List ℕ → Layout → Float → ℕ → Fields → Bool
long_with s lay clock place f = leb 1 lay.n && far_apart (start_with s lay place f lay.n) (start_with s lay place f 1) clock

abbrev pub insert_local : List ℕ → Layout → Float → ℕ → Fields → List Verdict
insert_local s lay clock place f = object_conditions s lay place place f (long_with s lay clock place f)

-- ---- Removal of the object at a place

-- condition 5 at the place: the object after starts before the one before
unfoldable pub falls_without : List ℕ → Layout → ℕ → Bool
falls_without s lay place = ltb (place + 1) lay.n && falls_here s lay place (fields_of s lay (place + 1))

-- the start at place j of the new chart
unfoldable pub start_without : List ℕ → Layout → ℕ → ℕ → Float
start_without s lay place j = (fields_of s lay (cond (ltb j place) j (j + 1))).start

-- condition 6, for N - 1 from 2
unfoldable pub long_without : List ℕ → Layout → Float → ℕ → Bool
long_without s lay clock place = leb 3 lay.n && far_apart (start_without s lay place (lay.n - 2)) (start_without s lay place 1) clock

unfoldable pub remove_local : List ℕ → Layout → Float → ℕ → List Verdict
remove_local s lay clock place =
    refuse_if (falls_without s lay place) (Order place) ∷ refuse_if (long_without s lay clock place) Length ∷ []
