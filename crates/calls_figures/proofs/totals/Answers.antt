-- `calls_figures::totals` meets its contract. Assumes nothing.
use Rattle.std.proofs.lemmas.Result.{err_from_is_err_and}
use mathlib.Core.Path.{sym, ◌∙◌}
use Rattle.calls.specs.Afresh.{totals}
use Rattle.calls_figures.specs.Answers.{scratch_of}
use Rattle.calls_figures.proofs.Outcomes.{short_chart, own_figure}
use Rattle.calls_figures.proofs.totals.Goals as goal

pub returns-in_err-own_settings : goal.returns-in_err-own_settings
returns-in_err-own_settings c =
    let a = c.args in
    let p = err_from_is_err_and c.from_residual.result c.from_residual.ensures.1 in
    let s = c.own_settings.ensures.short _ c.in_err-own_settings.was in
    let x = (scratch_of a.aim.now a.aim_no_sliders.now a.speed.now a.flashlight.now) in
    let h = short_chart totals a.chart.now a.values.now x s.0 in
    rw (p.1, p.2, s.1) (
    record {
      answer = sym h.0;
      scratch = sym h.1;
    }
    )

pub returns : goal.returns
returns c =
    let a = c.args in
    let x = (scratch_of a.aim.now a.aim_no_sliders.now a.speed.now a.flashlight.now) in
    let own = c.own_settings.ensures.own _ c.in_ok-own_settings.was in
    let h = own_figure totals a.chart.now a.values.now x _ own in
    let t = c.totals_as.ensures in
    record {
      answer = t.answer ∙ h.0;
      scratch = t.scratch ∙ h.1;
    }
