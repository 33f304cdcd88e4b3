-- `station::difficulty_read_record_as` meets its contract. Assumes nothing.
use mathlib.Core.Path.{sym, ap, ◌∙◌}
use native.Mathlib.Omega.{arith}
use lib.ListN.{length}
use Rattle.num_tables.specs.Parts.{put}
use Rattle.calls.specs.Calls.{Answer, Outcome}
use Rattle.calls_readings.specs.Answers.{record_answer}
use Rattle.station.specs.Codes.{answer_code, numbers_of}
use Rattle.station.proofs.Rooms.{put_none, into_room_as, no_record}
use Rattle.station.proofs.difficulty_read_record_as.Goals as goal

pub put_record-requires : goal.put_record-requires
put_record-requires c =
    let a = c.args in
    let p = sym (ap record_answer c.in-Ok.is) ∙ ap (λ (x : Outcome). x.answer) c.record_into_as.ensures in
    (omega arith, omega (arith, into_room_as _ 16 (length a.out.now) _ _ _ (no_record _) p))

pub returns-in-Err : goal.returns-in-Err
returns-in-Err c =
    let a = c.args in
    let p = sym (ap record_answer c.in-Err.is) ∙ ap (λ (x : Outcome). x.answer) c.record_into_as.ensures in
    record {
      answer = c.code.ensures ∙ ap answer_code p;
      out = put_none a.out.now ∙ ap (λ (x : Answer). put 0 (numbers_of x) a.out.now) p;
    }

pub returns-in-Ok : goal.returns-in-Ok
returns-in-Ok c =
    let a = c.args in
    let p = sym (ap record_answer c.in-Ok.is) ∙ ap (λ (x : Outcome). x.answer) c.record_into_as.ensures in
    record {
      answer = ap answer_code p;
      out = c.put_record.ensures ∙ ap (λ (x : Answer). put 0 (numbers_of x) a.out.now) p;
    }
