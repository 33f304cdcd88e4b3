-- `calls_readings::read_aim_parts_as` meets its contract. Assumes nothing.
use Rattle.std.proofs.lemmas.Result.{err_from_is_err_and}
use Rattle.chart_opening.specs.Header.{settings_at, settings_of}
use Rattle.calls.specs.Afresh.{aim_parts}
use Rattle.calls.specs.Calls.{detail_is, outcome_with}
use Rattle.calls_readings.proofs.OutcomesAs.{detail_refused, detail_read, in_table, aim_any}
use mathlib.Core.List.{[]}
use mathlib.Core.Path.{sym, ◌∙◌}
use Rattle.calls_readings.proofs.read_aim_parts_as.Goals as goal

pub aim_at-requires : goal.aim_at-requires
aim_at-requires c = let a = c.args in in_table a.settings.now a.chart.now a.records.now a.place (sym c.check_reading_as.ensures ∙ c.in_ok-check_reading_as.was)

pub returns-in_err-check_reading_as : goal.returns-in_err-check_reading_as
returns-in_err-check_reading_as c =
    let p = err_from_is_err_and c.from_residual.result c.from_residual.ensures.1 in
    rw (p.1, p.2) (let a = c.args in (sym (detail_refused a.settings.now a.chart.now a.records.now a.place aim_parts _ (sym c.check_reading_as.ensures ∙ c.in_err-check_reading_as.was))))

pub returns : goal.returns
returns c = let a = c.args in ((λ i. outcome_with (detail_is ((c.aim_at.ensures ∙ aim_any (settings_of a.chart.now) (settings_at a.settings.now 0) a.chart.now a.records.now a.place) i)) a.chart.now a.records.now []) ∙ sym (detail_read a.settings.now a.chart.now a.records.now a.place aim_parts (sym c.check_reading_as.ensures ∙ c.in_ok-check_reading_as.was)))
