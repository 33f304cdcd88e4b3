-- `station::difficulty_read_rhythm_as` meets its contract. Assumes nothing.
use mathlib.Core.Path.{sym, ap, ◌∙◌}
use native.Mathlib.Omega.{arith}
use lib.ListN.{length}
use Rattle.num_tables.specs.Parts.{put}
use Rattle.calls.specs.Calls.{Answer, Outcome}
use Rattle.calls_readings.specs.Answers.{rhythm_answer}
use Rattle.station.specs.Codes.{rhythm_width, answer_code, numbers_of}
use Rattle.station.proofs.Rooms.{put_none, into_room_as, no_detail, few_compared}
use Rattle.station.proofs.difficulty_read_rhythm_as.Goals as goal

pub put_row-requires : goal.put_row-requires
put_row-requires c =
    into_room_as _ rhythm_width (length c.args.out.now) _ _ _ (no_detail _) (sym (ap rhythm_answer c.in-Ok.is) ∙ ap (λ (x : Outcome). x.answer) c.rhythm_into_as.ensures)

pub overflow_cast-c : goal.overflow_cast-c
overflow_cast-c c =
    let h = few_compared _ _ (length c.args.out.now) c.args.place _ _ (sym (ap rhythm_answer c.in-Ok.is) ∙ ap (λ (x : Outcome). x.answer) c.rhythm_into_as.ensures) in
    omega (arith, h)

pub returns-in-Err : goal.returns-in-Err
returns-in-Err c =
    let a = c.args in
    let p = sym (ap rhythm_answer c.in-Err.is) ∙ ap (λ (x : Outcome). x.answer) c.rhythm_into_as.ensures in
    record {
      answer = c.code.ensures ∙ ap answer_code p;
      out = put_none a.out.now ∙ ap (λ (x : Answer). put 0 (numbers_of x) a.out.now) p;
    }

pub returns-in-Ok : goal.returns-in-Ok
returns-in-Ok c =
    let a = c.args in
    let p = sym (ap rhythm_answer c.in-Ok.is) ∙ ap (λ (x : Outcome). x.answer) c.rhythm_into_as.ensures in
    record {
      answer = ap answer_code p;
      out = c.put_row.ensures ∙ ap (λ (x : Answer). put 0 (numbers_of x) a.out.now) p;
    }
