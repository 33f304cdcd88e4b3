-- `station::totals_into` meets its contract. Assumes nothing.
use mathlib.Core.Path.{sym, ◌∙◌}
use Rattle.calls.specs.Afresh.{totals}
use Rattle.calls_figures.specs.Answers.{scratch_of}
use Rattle.station.proofs.Rooms.{figure_short, figure_long}
use Rattle.station.proofs.totals_into.Goals as goal

pub returns-then-cramped : goal.returns-then-cramped
returns-then-cramped c =
    let a = c.args in
    let h = figure_short a.settings.now totals a.cramped (scratch_of a.aim.now a.aim_no_sliders.now a.speed.now a.flashlight.now) a.chart.now a.values.now c.if-cramped.true _ c.refuse_sums.ensures in
    record {
      answer = sym h.0;
      scratch = sym h.1;
    }

pub returns : goal.returns
returns c =
    let a = c.args in
    let h = figure_long a.settings.now totals a.cramped (scratch_of a.aim.now a.aim_no_sliders.now a.speed.now a.flashlight.now) a.chart.now a.values.now c.if-cramped.false in
    record {
      answer = c.totals_as.ensures.answer ∙ sym h.0;
      scratch = c.totals_as.ensures.scratch ∙ sym h.1;
    }
