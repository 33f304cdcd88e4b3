-- `calls_readings::read_values` meets its contract. Assumes nothing.
use Rattle.std.proofs.lemmas.Result.{err_from_is_err_and}
use Rattle.calls.proofs.Refusals.{accepted_read}
use Rattle.calls.specs.Calls.{values_are, outcome_with}
use Rattle.calls_readings.proofs.Outcomes.{values_refused, values_read}
use mathlib.Core.List.{[]}
use native.Mathlib.Omega.{arith}
use mathlib.Core.Path.{sym, ◌∙◌}
use Rattle.calls_readings.proofs.read_values.Goals as goal

pub row_at-requires : goal.row_at-requires
row_at-requires c =
    let d = accepted_read _ _ _ (sym c.check_reading.ensures ∙ c.in_ok-check_reading.was) in
    omega (arith, d.room, d.below)

pub returns-in_err-check_reading : goal.returns-in_err-check_reading
returns-in_err-check_reading c =
    let a = c.args in
    let p = err_from_is_err_and c.from_residual.result c.from_residual.ensures.1 in
    rw (p.1, p.2) (sym (values_refused a.chart.now a.values.now a.place _ (sym c.check_reading.ensures ∙ c.in_err-check_reading.was)))

pub returns : goal.returns
returns c =
    let a = c.args in
    (λ i. outcome_with (values_are (c.row_at.ensures i)) a.chart.now [] a.values.now)
    ∙ sym (values_read a.chart.now a.values.now a.place (sym c.check_reading.ensures ∙ c.in_ok-check_reading.was))
