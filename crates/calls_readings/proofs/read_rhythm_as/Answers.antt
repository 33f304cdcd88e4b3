-- `calls_readings::read_rhythm_as` meets its contract. Assumes nothing.
use Rattle.std.proofs.lemmas.Result.{err_from_is_err_and}
use Rattle.chart_opening.specs.declared.Settings.{Settings}
use Rattle.calls.specs.Afresh.{rhythm, detail_from}
use Rattle.calls.specs.Calls.{detail_is, outcome_with}
use Rattle.calls_readings.proofs.OutcomesAs.{detail_refused, detail_read, passed, in_table}
use mathlib.Core.List.{[]}
use native.Mathlib.Omega.{arith}
use mathlib.Core.Path.{sym, ap, ◌∙◌}
use Rattle.calls_readings.proofs.read_rhythm_as.Goals as goal

pub settings_at-set-requires : goal.settings_at-set-requires
settings_at-set-requires c = let a = c.args in let p = (passed a.settings.now a.chart.now a.records.now a.place _ (sym c.check_reading_as.ensures ∙ c.in_ok-check_reading_as.was)).size in omega (arith, p)

pub rhythm_at-requires : goal.rhythm_at-requires
rhythm_at-requires c = let a = c.args in in_table a.settings.now a.chart.now a.records.now a.place (sym c.check_reading_as.ensures ∙ c.in_ok-check_reading_as.was)

pub returns-in_err-check_reading_as : goal.returns-in_err-check_reading_as
returns-in_err-check_reading_as c =
    let p = err_from_is_err_and c.from_residual.result c.from_residual.ensures.1 in
    rw (p.1, p.2) (let a = c.args in (sym (detail_refused a.settings.now a.chart.now a.records.now a.place rhythm _ (sym c.check_reading_as.ensures ∙ c.in_err-check_reading_as.was))))

pub returns : goal.returns
returns c = let a = c.args in ((λ i. outcome_with (detail_is ((c.rhythm_at.ensures ∙ ap (λ (x : Settings). detail_from rhythm x a.chart.now a.records.now a.place) c.settings_at-set.ensures) i)) a.chart.now a.records.now []) ∙ sym (detail_read a.settings.now a.chart.now a.records.now a.place rhythm (sym c.check_reading_as.ensures ∙ c.in_ok-check_reading_as.was)))
