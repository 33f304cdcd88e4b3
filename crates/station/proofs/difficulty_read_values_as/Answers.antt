-- `station::difficulty_read_values_as` meets its contract. Assumes nothing.
use mathlib.Core.Path.{sym, ap, ◌∙◌}
use native.Mathlib.Omega.{arith}
use lib.ListN.{length}
use Rattle.num_tables.specs.Parts.{put}
use Rattle.calls.specs.Calls.{Answer, Outcome}
use Rattle.calls_readings.specs.Answers.{values_answer}
use Rattle.station.specs.Codes.{answer_code, numbers_of}
use Rattle.station.proofs.Rooms.{put_none, into_room_as, no_values}
use Rattle.station.proofs.difficulty_read_values_as.Goals as goal

pub put_values-requires : goal.put_values-requires
put_values-requires c =
    let a = c.args in
    let p = sym (ap values_answer c.in-Ok.is) ∙ ap (λ (x : Outcome). x.answer) c.values_into_as.ensures in
    (omega arith, omega (arith, into_room_as _ 5 (length a.out.now) _ _ _ (no_values _) p))

pub returns-in-Err : goal.returns-in-Err
returns-in-Err c =
    let a = c.args in
    let p = sym (ap values_answer c.in-Err.is) ∙ ap (λ (x : Outcome). x.answer) c.values_into_as.ensures in
    record {
      answer = c.code.ensures ∙ ap answer_code p;
      out = put_none a.out.now ∙ ap (λ (x : Answer). put 0 (numbers_of x) a.out.now) p;
    }

pub returns-in-Ok : goal.returns-in-Ok
returns-in-Ok c =
    let a = c.args in
    let p = sym (ap values_answer c.in-Ok.is) ∙ ap (λ (x : Outcome). x.answer) c.values_into_as.ensures in
    record {
      answer = ap answer_code p;
      out = c.put_values.ensures ∙ ap (λ (x : Answer). put 0 (numbers_of x) a.out.now) p;
    }
