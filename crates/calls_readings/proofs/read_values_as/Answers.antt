-- `calls_readings::read_values_as` meets its contract. Assumes nothing.
use Rattle.std.proofs.lemmas.Result.{err_from_is_err_and}
use Rattle.calls.proofs.Refusals.{accepted_read}
use Rattle.calls.specs.Calls.{values_are, outcome_with}
use Rattle.calls_readings.proofs.OutcomesAs.{values_refused, values_read, passed}
use mathlib.Core.List.{[]}
use native.Mathlib.Omega.{arith}
use mathlib.Core.Path.{sym, ◌∙◌}
use Rattle.calls_readings.proofs.read_values_as.Goals as goal

pub row_at-requires : goal.row_at-requires
row_at-requires c = let a = c.args in let p = passed a.settings.now a.chart.now a.values.now a.place _ (sym c.check_reading_as.ensures ∙ c.in_ok-check_reading_as.was) in let d = accepted_read _ _ _ p.then in omega (arith, d.room, d.below)

pub returns-in_err-check_reading_as : goal.returns-in_err-check_reading_as
returns-in_err-check_reading_as c =
    let p = err_from_is_err_and c.from_residual.result c.from_residual.ensures.1 in
    rw (p.1, p.2) (let a = c.args in (sym (values_refused a.settings.now a.chart.now a.values.now a.place _ (sym c.check_reading_as.ensures ∙ c.in_err-check_reading_as.was))))

pub returns : goal.returns
returns c = let a = c.args in ((λ i. outcome_with (values_are (c.row_at.ensures i)) a.chart.now [] a.values.now) ∙ sym (values_read a.settings.now a.chart.now a.values.now a.place (sym c.check_reading_as.ensures ∙ c.in_ok-check_reading_as.was)))
