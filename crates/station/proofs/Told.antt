-- Number and place are read back from the code of a refusal: a place is at most 16,384. Assumes nothing.
use Prim.Native.Nat.{◌/◌, ◌%◌, ◌≤◌}
use mathlib.Core.Path.{◌≡◌, refl}
use Rattle.std.specs.Prelude.{Ok, Err}
use native.Mathlib.Omega.{arith}
use Rattle.chart_fields.specs.Limits.{most_objects}
use Rattle.chart_opening.specs.Conditions.{refusal_number, refusal_place}
use Rattle.chart_opening.specs.declared.Refusal.{Refusal}
use Rattle.chart_opening.specs.Verdict.{Verdict}
use Rattle.calls_editor.specs.Answers.{replace_answer, insert_answer, remove_answer}
use Rattle.station.specs.Codes.{place_span, code_of, verdict_code, answer_code}

pub told : (r : Refusal) → refusal_place r ≤ most_objects → (code_of r / place_span ≡ refusal_number r) × (code_of r % place_span ≡ refusal_place r)
told r h = (omega arith, omega arith)

-- an edit's code is that of its answer
pub replace_code : (v : Verdict) → verdict_code v ≡ answer_code (replace_answer v)
replace_code (Ok tt) = refl
replace_code (Err r) = refl

pub insert_code : (v : Verdict) → verdict_code v ≡ answer_code (insert_answer v)
insert_code (Ok tt) = refl
insert_code (Err r) = refl

pub remove_code : (v : Verdict) → verdict_code v ≡ answer_code (remove_answer v)
remove_code (Ok tt) = refl
remove_code (Err r) = refl
