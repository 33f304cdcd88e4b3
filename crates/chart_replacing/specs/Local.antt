-- Conditions 3 to 6 of a chart with one object replaced, from the chart as it was and the new object's fields. Where the old chart meets none
-- of them, the first that is met here is the first of the new one's: only what the new object can have changed is tested. Definitions only.
use Rattle.std.specs.Prelude.{ℕ, ◌+◌, ◌-◌, Bool, not, cond, ◌&&◌, List, [], ◌∷◌, leb, ltb, eqb, Float}
use Rattle.std.specs.Float.Ieee as Ieee
use Rattle.chart_fields.specs.Objects.{fields_of, fields_ok}
use Rattle.chart_fields.specs.declared.Fields.{Fields}
use Rattle.chart_fields.specs.declared.Layout.{Layout}
use Rattle.chart_entries.specs.Entries.{wrong_entries}
use Rattle.chart_opening.specs.Header.{far_apart}
use Rattle.chart_opening.specs.Conditions.{refuse_if}
use Rattle.chart_opening.specs.declared.Refusal.TheVariants.{Object, Entries, Order, Length}
use Rattle.chart_opening.specs.Verdict.{Verdict}

-- condition 5 at the new object's place: it starts before its predecessor
unfoldable pub falls_here : List ℕ → Layout → ℕ → Fields → Bool
falls_here s lay place f = ltb 0 place && Ieee.lt f.start (fields_of s lay (place - 1)).start

-- condition 5 at the place after: the object that the old chart has at place next, which then stands there, starts before the new one
unfoldable pub falls_next : List ℕ → Layout → ℕ → Fields → Bool
falls_next s lay next f = ltb next lay.n && Ieee.lt (fields_of s lay next).start f.start

-- the start at place j of the new chart
unfoldable pub new_start : List ℕ → Layout → ℕ → Fields → ℕ → Float
new_start s lay place f j = cond (eqb j place) f.start (fields_of s lay j).start

-- condition 6
unfoldable pub new_too_long : List ℕ → Layout → Float → ℕ → Fields → Bool
new_too_long s lay clock place f = leb 2 lay.n && far_apart (new_start s lay place f (lay.n - 1)) (new_start s lay place f 1) clock

-- what an object of these fields at a place, with the old one of place next behind it, can have changed; 6 is given
unfoldable pub object_conditions : List ℕ → Layout → ℕ → ℕ → Fields → Bool → List Verdict
object_conditions s lay place next f long =
    refuse_if (not (fields_ok f)) (Object place)
    ∷ refuse_if (wrong_entries s lay f) (Entries place)
    ∷ refuse_if (falls_here s lay place f) (Order place)
    ∷ refuse_if (falls_next s lay next f) (Order (place + 1))
    ∷ refuse_if long Length
    ∷ []

abbrev pub new_conditions : List ℕ → Layout → Float → ℕ → Fields → List Verdict
new_conditions s lay clock place f = object_conditions s lay place (place + 1) f (new_too_long s lay clock place f)
