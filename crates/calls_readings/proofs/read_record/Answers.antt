-- `calls_readings::read_record` meets its contract. Assumes nothing.
use Rattle.std.proofs.lemmas.Result.{err_from_is_err_and}
use Rattle.chart_opening.proofs.Header.{holds}
use Rattle.calls.proofs.Refusals.{accepted_read}
use Rattle.calls.specs.Calls.{record_is, outcome_with}
use Rattle.calls_readings.proofs.Outcomes.{record_refused, record_read}
use mathlib.Core.List.{[]}
use native.Mathlib.Omega.{arith}
use mathlib.Core.Path.{sym, ◌∙◌}
use Rattle.calls_readings.proofs.read_record.Goals as goal

pub record_at-requires : goal.record_at-requires
record_at-requires c =
    let d = accepted_read _ _ _ (sym c.check_reading.ensures ∙ c.in_ok-check_reading.was) in
    (omega (arith, (holds _ d.header).few, d.below), omega (arith, d.room, d.below))

pub returns-in_err-check_reading : goal.returns-in_err-check_reading
returns-in_err-check_reading c =
    let a = c.args in
    let p = err_from_is_err_and c.from_residual.result c.from_residual.ensures.1 in
    rw (p.1, p.2) (sym (record_refused a.chart.now a.records.now a.place _ (sym c.check_reading.ensures ∙ c.in_err-check_reading.was)))

pub returns : goal.returns
returns c =
    let a = c.args in
    (λ i. outcome_with (record_is (c.record_at.ensures i)) a.chart.now a.records.now [])
    ∙ sym (record_read a.chart.now a.records.now a.place (sym c.check_reading.ensures ∙ c.in_ok-check_reading.was))
