-- What each figure's answer stands for among the answers of crate calls, and what a chart with its values and scratch has to be. Definitions only.
use Rattle.std.specs.Prelude.{List, ℕ, ◌*◌, ◌≤◌, Float, length, Result, Ok, Err}
use Rattle.chart_fields.specs.Limits.{header_size}
use Rattle.chart_fields.specs.Objects.{Holds}
use Rattle.chart_opening.specs.Header.{layout_of}
use Rattle.chart_opening.specs.declared.Refusal.{Refusal}
use Rattle.chart_opening.specs.Verdict.{Verdict}
use Rattle.chart_players.specs.Second.{under, second_verdict}
use Rattle.skills.specs.declared.Skills.{Skills}
use Rattle.skills_counts.specs.declared.ObjectCounts.{ObjectCounts}
use Rattle.skills_stars.specs.declared.Ratings.{Ratings}
use Rattle.calls.specs.Tables.{value_width, least_scratch, value_entries}
use Rattle.calls.specs.Afresh.{totals_are, counts_are, ratings_are}
use Rattle.calls.specs.Conditions.{Scratch, Lengths, scratch_short, sum_verdict}
use Rattle.calls.specs.Calls.{Answer, refused, figure_is}

-- a chart with a value table of v numbers and scratch of these lengths
pub record Sums (b : List ℕ) (v : ℕ) (l : Lengths) : Type 0 where
  pub long : header_size ≤ length b
  pub holds : Holds b (layout_of b)
  pub rows : value_width * (layout_of b).n ≤ v
  pub aim : least_scratch ≤ l.aim
  pub aim_no_sliders : least_scratch ≤ l.aim_no_sliders
  pub speed : least_scratch ≤ l.speed
  pub flashlight : least_scratch ≤ l.flashlight

-- the four slices of scratch
abbrev pub scratch_of : List Float → List Float → List Float → List Float → Scratch
scratch_of aim aim_no_sliders speed flashlight = record { aim = aim; aim_no_sliders = aim_no_sliders; speed = speed; flashlight = flashlight }

-- conditions 1 to 7 for the second player, with a value table of v numbers and scratch of these lengths
abbrev pub lent_verdict : List ℕ → List ℕ → ℕ → Lengths → Verdict
lent_verdict t b v l = second_verdict t b (sum_verdict (under t b) (value_entries v) (scratch_short l))

abbrev pub totals_answer : Result Skills Refusal → Answer
totals_answer (Ok t) = figure_is (totals_are t)
totals_answer (Err r) = refused r

abbrev pub counts_answer : Result ObjectCounts Refusal → Answer
counts_answer (Ok c) = figure_is (counts_are c)
counts_answer (Err r) = refused r

abbrev pub ratings_answer : Result Ratings Refusal → Answer
ratings_answer (Ok x) = figure_is (ratings_are x)
ratings_answer (Err r) = refused r
