-- `calls_readings::read_aim_parts` meets its contract. Assumes nothing.
use Rattle.std.proofs.lemmas.Result.{err_from_is_err_and}
use Rattle.calls.specs.Afresh.{aim_parts}
use Rattle.calls.specs.Calls.{detail_is, outcome_with}
use Rattle.calls_readings.proofs.Outcomes.{detail_refused, detail_read, in_table}
use mathlib.Core.List.{[]}
use mathlib.Core.Path.{sym, ◌∙◌}
use Rattle.calls_readings.proofs.read_aim_parts.Goals as goal

pub aim_at-requires : goal.aim_at-requires
aim_at-requires c = let a = c.args in in_table a.chart.now a.records.now a.place (sym c.check_reading.ensures ∙ c.in_ok-check_reading.was)

pub returns-in_err-check_reading : goal.returns-in_err-check_reading
returns-in_err-check_reading c =
    let a = c.args in
    let p = err_from_is_err_and c.from_residual.result c.from_residual.ensures.1 in
    rw (p.1, p.2) (sym (detail_refused a.chart.now a.records.now a.place aim_parts _ (sym c.check_reading.ensures ∙ c.in_err-check_reading.was)))

pub returns : goal.returns
returns c =
    let a = c.args in
    (λ i. outcome_with (detail_is (c.aim_at.ensures i)) a.chart.now a.records.now [])
    ∙ sym (detail_read a.chart.now a.records.now a.place aim_parts (sym c.check_reading.ensures ∙ c.in_ok-check_reading.was))
