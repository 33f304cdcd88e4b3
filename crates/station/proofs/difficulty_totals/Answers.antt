-- `station::difficulty_totals` meets its contract: the header has the settings. Assumes nothing.
use mathlib.Core.Path.{sym, ap, ◌∙◌}
use lib.ListN.{length}
use Rattle.num_tables.specs.Parts.{part, put}
use Rattle.calls.specs.Calls.{Answer, Outcome}
use lib.Dec.{ltb}
use Rattle.calls.specs.Tables.{totals_width}
use Rattle.calls.specs.Afresh.{totals}
use Rattle.calls_figures.specs.Answers.{scratch_of}
use Rattle.station.specs.Codes.{answer_code, numbers_of}
use Rattle.station.proofs.Rooms.{put_none, short_figure, own_figure}
use Rattle.station.proofs.difficulty_totals.Goals as goal

pub returns-then-chart-lt-HEADER_SIZE : goal.returns-then-chart-lt-HEADER_SIZE
returns-then-chart-lt-HEADER_SIZE c =
    let a = c.args in
    let h = short_figure totals (ltb (length a.out.now) totals_width) (scratch_of a.aim.now a.aim_no_sliders.now a.speed.now a.flashlight.now) a.chart.now a.values.now c.if-chart-lt-HEADER_SIZE.true in
    let p = sym (ap (λ (x : Outcome). x.answer) h.0) in
    record {
      answer = c.code.ensures ∙ ap answer_code p;
      scratch = sym h.1;
      out = put_none a.out.now ∙ ap (λ (x : Answer). put 0 (numbers_of x) a.out.now) p;
    }

pub returns : goal.returns
unfolding part
returns c =
    let a = c.args in
    let h = own_figure totals (ltb (length a.out.now) totals_width) (scratch_of a.aim.now a.aim_no_sliders.now a.speed.now a.flashlight.now) a.chart.now a.values.now c.if-chart-lt-HEADER_SIZE.false in
    let p = ap (λ (x : Outcome). x.answer) h.0 in
    let e = c.difficulty_totals_as.ensures in
    record {
      answer = e.answer ∙ ap answer_code p;
      scratch = e.scratch ∙ h.1;
      out = e.out ∙ ap (λ (x : Answer). put 0 (numbers_of x) a.out.now) p;
    }
