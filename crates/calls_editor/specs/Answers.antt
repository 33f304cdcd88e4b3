-- What each edit's answer stands for among the answers of crate calls, and what a chart with its tables has to be. Definitions only.
use Rattle.std.specs.Prelude.{ℕ, ◌*◌, ◌≤◌, List, length, Ok, Err}
use Rattle.chart_fields.specs.Limits.{header_size, most_objects}
use Rattle.chart_opening.specs.Header.{layout_of}
use Rattle.osu_object.specs.Osu.{Ready}
use Rattle.calls.specs.Tables.{record_width, value_width}
use Rattle.chart_opening.specs.Verdict.{Verdict}
use Rattle.calls.specs.Calls.{Answer, refused, replaced, inserted, removed}

abbrev pub replace_answer : Verdict → Answer
replace_answer (Ok tt) = replaced
replace_answer (Err r) = refused r

abbrev pub insert_answer : Verdict → Answer
insert_answer (Ok tt) = inserted
insert_answer (Err r) = refused r

abbrev pub remove_answer : Verdict → Answer
remove_answer (Ok tt) = removed
remove_answer (Err r) = refused r

-- a chart, ready to be read, with tables of r and v numbers
pub record Fits (b : List ℕ) (r v : ℕ) : Type 0 where
  pub ready : Ready b (layout_of b)
  pub long : header_size ≤ length b
  pub few : (layout_of b).n ≤ most_objects
  pub records : record_width * (layout_of b).n ≤ r
  pub values : value_width * (layout_of b).n ≤ v
