-- Document 01, "What each call answers": replacing an object. Definitions only.
use Rattle.std.specs.Prelude.{ℕ, not, List, ◌∷◌, ◌++◌, ltb, eqb, length}
use Rattle.num_tables.specs.Parts.{part, put}
use Rattle.chart_fields.specs.Objects.{object_at}
use Rattle.chart_opening.specs.Header.{layout_of}
use Rattle.chart_opening.specs.Conditions.{refuse_if, first_of, body_of, open_conditions}
use Rattle.chart_opening.specs.declared.Refusal.TheVariants.{Object, Place}
use Rattle.chart_opening.specs.Verdict.{Verdict}

-- the bytes of the object at a place
unfoldable pub object_bytes : List ℕ → ℕ → List ℕ
object_bytes s place = part (object_at (layout_of s) place) (layout_of s).object_size s

-- "Replacing writes to the chart the object at its place alone": the chart with an object's bytes at a place
unfoldable pub put_object : ℕ → List ℕ → List ℕ → List ℕ
put_object place object s = put (object_at (layout_of s) place) object s

-- "8 if the place isn't below N, then 3, 4, 5, 6 for the chart as it would become"; "an object lent in any other length is 3 at that place"
unfoldable pub place_conditions : List ℕ → ℕ → List ℕ → List Verdict
place_conditions s place object =
    refuse_if (not (ltb place (layout_of s).n)) Place
    ∷ refuse_if (not (eqb (length object) (layout_of s).object_size)) (Object place)
    ∷ body_of (put_object place object s)

-- "First 1 to 7 for the chart it is lent, then" those; `entries` is the number of entries of the shortest lent table
unfoldable pub replace_conditions : List ℕ → ℕ → List ℕ → ℕ → List Verdict
replace_conditions s place object entries = open_conditions s entries ++ place_conditions s place object

abbrev pub replace_verdict : List ℕ → ℕ → List ℕ → ℕ → Verdict
replace_verdict s place object entries = first_of (replace_conditions s place object entries)
