-- What each reading's answer stands for among the answers of crate calls. Definitions only.
use Rattle.std.specs.Prelude.{◌≡◌, true, List, ℕ, ◌*◌, ◌≤◌, ◌<◌, Result, Ok, Err}
use Rattle.chart_opening.specs.Header.{layout_of, frame_ok}
use Rattle.chart_opening.specs.declared.Refusal.{Refusal}
use Rattle.osu_difficulty_object.specs.declared.OsuDifficultyObject.{OsuDifficultyObject}
use Rattle.eval_rhythm.specs.declared.Counted.{Counted}
use Rattle.eval_values.specs.declared.Values.{Values}
use Rattle.eval_values.specs.Values.{row_of}
use Rattle.calls.specs.Tables.{record_width}
use Rattle.calls.specs.Afresh.{Finding, aim_is, rhythm_is}
use Rattle.calls.specs.Calls.{Answer, refused, record_is, values_are, detail_is}
use Rattle.calls_readings.specs.declared.AimDetail.{AimDetail}

-- a place that has a record in a table of r numbers, in a chart whose header is right but for its flags
pub record InTable (b : List ℕ) (r place : ℕ) : Type 0 where
  pub frame : frame_ok b ≡ true
  pub room : record_width * (layout_of b).n ≤ r
  pub one : 1 ≤ place
  pub below : place < (layout_of b).n

abbrev pub record_answer : Result OsuDifficultyObject Refusal → Answer
record_answer (Ok x) = record_is x
record_answer (Err r) = refused r

abbrev pub values_answer : Result Values Refusal → Answer
values_answer (Ok v) = values_are (row_of v)
values_answer (Err r) = refused r

abbrev pub aim_finding : AimDetail → Finding
aim_finding d = aim_is d.value d.parts d.value_no_sliders d.parts_no_sliders

abbrev pub aim_answer : Result AimDetail Refusal → Answer
aim_answer (Ok d) = detail_is (aim_finding d)
aim_answer (Err r) = refused r

abbrev pub rhythm_finding : Counted → Finding
rhythm_finding c = rhythm_is c.value c.comparisons

abbrev pub rhythm_answer : Result Counted Refusal → Answer
rhythm_answer (Ok c) = detail_is (rhythm_finding c)
rhythm_answer (Err r) = refused r
