-- Document 01, "The lister": what it prints of a chart, from the chart's bytes alone. Definitions only.
use Rattle.std.specs.Prelude.{ℕ, zero, suc, ◌-◌, ◌*◌, ◌≤◌, ◌<◌, ◌≡◌, cond, List, [], ◌++◌, ltb, Float, length}
use Rattle.num_tables.specs.Parts.{row}
use Rattle.chart_opening.specs.Header.{layout_of, settings_of}
use Rattle.skills.specs.declared.Skills.{Skills}
use Rattle.skills_counts.specs.declared.ObjectCounts.{ObjectCounts}
use Rattle.print_lines.specs.Lines.{refusal_text, count_text, place_text, totals_text, counts_text}
use Rattle.chart_opening.specs.Conditions.{refusal_number, refusal_place, first_of, if_accepted, chart_conditions, Opens}
use Rattle.chart_opening.specs.declared.Refusal.{Refusal}
use Rattle.calls.specs.Tables.{record_width, value_width, least_scratch}
use Rattle.calls.specs.Afresh.{fresh_values, totals_of, counts_of}

-- "reads a chart (to 32,768 bytes ..)"
abbrev pub limit : ℕ
limit = 32768

-- "beyond that 7, place 0"
unfoldable pub beyond_text : List ℕ
beyond_text = refusal_text 7 0

-- "A refusal prints `refused`, number, place"
unfoldable pub met_text : Refusal → List ℕ
met_text r = refusal_text (refusal_number r) (refusal_place r)

-- "per place from 1": the lines of places 1 to k, of values by place
unfoldable pub places_text : (ℕ → List Float) → ℕ → List ℕ
places_text values zero = []
places_text values (suc k) = places_text values k ++ place_text (suc k) (values (suc k))

-- of n objects: "the word objects and N; per place from 1 ..; then a line that begins with the word totals"; document 02, order 2: "a further line after the
-- totals"
unfoldable pub opened_text : ℕ → (ℕ → List Float) → Skills → ObjectCounts → List ℕ
opened_text n values totals counts = count_text n ++ places_text values (n - 1) ++ totals_text totals ++ counts_text counts

-- the values of a place, the totals and the counts, worked out afresh
abbrev pub values_afresh : List ℕ → ℕ → List Float
values_afresh b = fresh_values (settings_of b) b

abbrev pub totals_afresh : List ℕ → Skills
totals_afresh b = totals_of (settings_of b) b (values_afresh b)

abbrev pub counts_afresh : List ℕ → ObjectCounts
counts_afresh b = counts_of (settings_of b) b (values_afresh b)

-- what is listed of a chart that opens
unfoldable pub afresh_text : List ℕ → List ℕ
afresh_text b = opened_text (layout_of b).n (values_afresh b) (totals_afresh b) (counts_afresh b)

-- within the limit: the first of conditions 1 to 6 that is met, else the chart's values, totals and counts
unfoldable pub chart_text : List ℕ → List ℕ
chart_text b = if_accepted (first_of (chart_conditions b)) (afresh_text b) met_text

-- "before any check"
unfoldable pub list_text : List ℕ → List ℕ
list_text b = cond (ltb limit (length b)) beyond_text (chart_text b)

-- ---- What the code relies on after the opening

-- the chart opens, and the table of values holds what is worked out afresh
pub record Filled (b : List ℕ) (vs : List Float) : Type 0 where
  pub opens : Opens b
  pub rows : value_width * (layout_of b).n ≤ length vs
  pub values : (j : ℕ) → 1 ≤ j → j < (layout_of b).n → row value_width vs j ≡ values_afresh b j

-- the objects that a chart within the limit can have: each takes at least 56 bytes behind the header's 80
abbrev pub most_listed : ℕ
most_listed = 583

-- so many numbers make a table long enough
pub record Tables (records values : ℕ) : Type 0 where
  pub records_room : record_width * most_listed ≤ records
  pub values_room : value_width * most_listed ≤ values

-- and "8,192 numbers per skill"
pub record ScratchRoom (aim aim_no_sliders speed flashlight : ℕ) : Type 0 where
  pub aim_room : least_scratch ≤ aim
  pub no_sliders_room : least_scratch ≤ aim_no_sliders
  pub speed_room : least_scratch ≤ speed
  pub flashlight_room : least_scratch ≤ flashlight
