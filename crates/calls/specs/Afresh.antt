-- "Afresh: by this document's rules from the chart's bytes alone": records, values, strains, details and figures of a chart, under given settings; and what follows
-- from tables as they are found. Definitions only.
use Rattle.std.specs.Prelude.{true, false, List, ℕ, ◌+◌, Float}
use Rattle.num_tables.specs.Parts.{row}
use Rattle.chart_opening.specs.Header.{layout_of}
use Rattle.chart_opening.specs.declared.Settings.{Settings}
use Rattle.osu_object.specs.Osu.{Object, object_of, list_from}
use Rattle.osu_difficulty_object.specs.Record.{chart_record}
use Rattle.osu_difficulty_object.specs.declared.OsuDifficultyObject.{OsuDifficultyObject}
use Rattle.osu_records.specs.Rows as Rows
use Rattle.eval_aim.specs.Aim.{parts_at_place, aim_at_place}
use Rattle.eval_aim.specs.declared.AimParts.{AimParts}
use Rattle.eval_rhythm.specs.Rhythm.{rhythm_at_place}
use Rattle.eval_rhythm.specs.Comparisons.{comparisons_at_place}
use Rattle.eval_values.specs.Values.{reach_of, values_of, values_in}
use Rattle.skills.specs.declared.Skills.{Skills}
use Rattle.skills.specs.Strains.{strains, total}
use Rattle.skills.specs.Chart.{start_at, delta_at}
use Rattle.skills_counts.specs.Counts as Counts
use Rattle.skills_counts.specs.Chart.{slider_at}
use Rattle.skills_counts.specs.declared.ObjectCounts.{ObjectCounts}
use Rattle.skills_stars.specs.Stars.{ratings_of}
use Rattle.skills_stars.specs.declared.Asked.{Asked}
use Rattle.skills_stars.specs.declared.Ratings.{Ratings}
use Rattle.calls.specs.Tables.{value_width}

-- document 01's object record
abbrev pub Record : Type 0
Record = OsuDifficultyObject

-- N, and the object at a place with its nested entries and points
abbrev pub count : List ℕ → ℕ
count b = (layout_of b).n

abbrev pub object : List ℕ → ℕ → Object
object b j = object_of b (layout_of b) j

-- ---- Afresh

abbrev pub fresh_record : Settings → List ℕ → ℕ → Record
fresh_record s b j = chart_record b (layout_of b) s j

-- as a row of the table
abbrev pub fresh_row : Settings → List ℕ → ℕ → List Float
fresh_row s b j = Rows.row_of (fresh_record s b j)

-- the five values, as a row of the table
unfoldable pub fresh_values : Settings → List ℕ → ℕ → List Float
fresh_values s b j = values_of s (reach_of (count b) j) (object b) (fresh_record s b) j

unfoldable pub fresh_strains : Settings → List ℕ → ℕ → Skills
fresh_strains s b j = strains (delta_at b (layout_of b) s.clock_rate) (fresh_values s b) j

-- ---- From tables as they are found

abbrev pub values_from : Settings → List ℕ → List Float → ℕ → List Float
values_from s b rs j = values_in s b (layout_of b) rs j

unfoldable pub strains_from : Settings → List ℕ → List Float → ℕ → Skills
strains_from s b vs j = strains (delta_at b (layout_of b) s.clock_rate) (row value_width vs) j

-- ---- Details: what is worked out at one place, from the chart and the records

pub data Detail : Type 0 where
  aim_parts : Detail
  rhythm : Detail

-- what a detail comes to
pub data Finding : Type 0 where
  -- aim's value and its parts, then both without sliders
  aim_is : Float → AimParts → Float → AimParts → Finding
  -- the rhythm value, and how often an island was compared with a kept one
  rhythm_is : Float → ℕ → Finding

-- document 02, orders 7 and 12, from the records by place
unfoldable pub detail_of : Detail → Settings → List ℕ → (ℕ → Record) → ℕ → Finding
detail_of aim_parts s b records j =
    aim_is (aim_at_place (object b) records j true) (parts_at_place (object b) records j true)
    (aim_at_place (object b) records j false) (parts_at_place (object b) records j false)
detail_of rhythm s b records j =
    rhythm_is (rhythm_at_place (object b) records (reach_of (count b) j) j s.hit_window) (comparisons_at_place (object b) records j s.hit_window)

abbrev pub fresh_detail : Detail → Settings → List ℕ → ℕ → Finding
fresh_detail d s b j = detail_of d s b (fresh_record s b) j

abbrev pub detail_from : Detail → Settings → List ℕ → List Float → ℕ → Finding
detail_from d s b rs j = detail_of d s b (Rows.record_at rs) j

-- ---- Figures: what is worked out from the values of all places, with scratch

pub data Figure : Type 0 where
  totals : Figure
  -- document 02, order 2
  counts : Figure
  -- order 10: the totals after the first m objects; after every number of objects, for a list of so many entries
  totals_to : ℕ → Figure
  playing : ℕ → Figure
  -- order 5: with the mods and numbers that come with the call
  ratings : Asked → Figure

-- what a figure comes to
pub data Amount : Type 0 where
  totals_are : Skills → Amount
  counts_are : ObjectCounts → Amount
  played_are : List Skills → Amount
  ratings_are : Ratings → Amount

-- skills/*.rs, from the values by place; times come from the chart
unfoldable pub totals_of : Settings → List ℕ → (ℕ → List Float) → Skills
totals_of s b values = total (start_at b (layout_of b) s.clock_rate) (delta_at b (layout_of b) s.clock_rate) values (count b)

-- "the four totals over places 1 to m-1, where place m-1 still sees its successor": its values are the whole chart's
unfoldable pub reached_of : ℕ → Settings → List ℕ → (ℕ → List Float) → Skills
reached_of m s b values = total (start_at b (layout_of b) s.clock_rate) (delta_at b (layout_of b) s.clock_rate) values m

-- kinds come from the chart, as times do
unfoldable pub counts_of : Settings → List ℕ → (ℕ → List Float) → ObjectCounts
counts_of s b values =
    Counts.counts (start_at b (layout_of b) s.clock_rate) (delta_at b (layout_of b) s.clock_rate) (slider_at b (layout_of b)) values (count b)

unfoldable pub figure_of : Figure → Settings → List ℕ → (ℕ → List Float) → Amount
figure_of totals s b values = totals_are (totals_of s b values)
figure_of counts s b values = counts_are (counts_of s b values)
figure_of (totals_to m) s b values = totals_are (reached_of m s b values)
figure_of (playing entries) s b values = played_are (list_from (λ m. reached_of m s b values) 0 (count b + 1))
figure_of (ratings asked) s b values = ratings_are (ratings_of (totals_of s b values) (count b) asked)

abbrev pub fresh_figure : Figure → Settings → List ℕ → Amount
fresh_figure f s b = figure_of f s b (fresh_values s b)

abbrev pub figure_from : Figure → Settings → List ℕ → List Float → Amount
figure_from f s b vs = figure_of f s b (row value_width vs)
