-- `station::difficulty_totals_as` meets its contract. Assumes nothing.
use mathlib.Core.Path.{sym, ap, ◌∙◌}
use borrow.Author.Tests.{ltb-false}
use Rattle.num_tables.specs.Parts.{put}
use Rattle.calls.specs.Afresh.{totals}
use Rattle.calls.specs.Calls.{Answer, Outcome}
use Rattle.calls_figures.specs.Answers.{totals_answer, scratch_of}
use Rattle.station.specs.Codes.{answer_code, numbers_of}
use Rattle.station.proofs.Rooms.{put_none, figure_room}
use Rattle.station.proofs.difficulty_totals_as.Goals as goal

pub put_totals-requires : goal.put_totals-requires
put_totals-requires c =
    let a = c.args in
    let p = sym (ap totals_answer c.in-Ok.is) ∙ ap (λ (x : Outcome). x.answer) c.totals_into.ensures.answer in
    ltb-false _ _ (figure_room a.settings.now totals _ (scratch_of a.aim.now a.aim_no_sliders.now a.speed.now a.flashlight.now) a.chart.now a.values.now _ p)

pub returns-in-Err : goal.returns-in-Err
returns-in-Err c =
    let a = c.args in
    let e = c.totals_into.ensures in
    let p = sym (ap totals_answer c.in-Err.is) ∙ ap (λ (x : Outcome). x.answer) e.answer in
    record {
      answer = c.code.ensures ∙ ap answer_code p;
      scratch = e.scratch;
      out = put_none a.out.now ∙ ap (λ (x : Answer). put 0 (numbers_of x) a.out.now) p;
    }

pub returns-in-Ok : goal.returns-in-Ok
returns-in-Ok c =
    let a = c.args in
    let e = c.totals_into.ensures in
    let p = sym (ap totals_answer c.in-Ok.is) ∙ ap (λ (x : Outcome). x.answer) e.answer in
    record {
      answer = ap answer_code p;
      scratch = e.scratch;
      out = c.put_totals.ensures ∙ ap (λ (x : Answer). put 0 (numbers_of x) a.out.now) p;
    }
