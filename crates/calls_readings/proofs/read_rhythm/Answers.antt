-- `calls_readings::read_rhythm` meets its contract. Assumes nothing.
use Rattle.std.proofs.lemmas.Result.{err_from_is_err_and}
use mathlib.Core.Path.{sym, ap, ◌∙◌}
use mathlib.Core.List.{[]}
use Rattle.chart_opening.specs.declared.Settings.{Settings}
use Rattle.chart_opening.proofs.Header.{framed}
use Rattle.calls.specs.Afresh.{rhythm, detail_from}
use Rattle.calls.specs.Calls.{detail_is, outcome_with}
use Rattle.calls_readings.proofs.Outcomes.{detail_refused, detail_read, in_table}
use Rattle.calls_readings.proofs.read_rhythm.Goals as goal

pub settings_at-set-requires : goal.settings_at-set-requires
settings_at-set-requires c =
    let a = c.args in
    (framed _ (in_table a.chart.now a.records.now a.place (sym c.check_reading.ensures ∙ c.in_ok-check_reading.was)).frame).long

pub rhythm_at-requires : goal.rhythm_at-requires
rhythm_at-requires c =
    let a = c.args in
    in_table a.chart.now a.records.now a.place (sym c.check_reading.ensures ∙ c.in_ok-check_reading.was)

pub returns-in_err-check_reading : goal.returns-in_err-check_reading
returns-in_err-check_reading c =
    let a = c.args in
    let p = err_from_is_err_and c.from_residual.result c.from_residual.ensures.1 in
    rw (p.1, p.2) (sym (detail_refused a.chart.now a.records.now a.place rhythm _ (sym c.check_reading.ensures ∙ c.in_err-check_reading.was)))

pub returns : goal.returns
returns c =
    let a = c.args in
    (λ i. outcome_with (detail_is ((c.rhythm_at.ensures ∙ ap (λ (x : Settings). detail_from rhythm x a.chart.now a.records.now a.place) c.settings_at-set.ensures) i)) a.chart.now a.records.now [])
    ∙ sym (detail_read a.chart.now a.records.now a.place rhythm (sym c.check_reading.ensures ∙ c.in_ok-check_reading.was))
