-- `calls_readings::read_record_as` meets its contract. Assumes nothing.
use Rattle.std.proofs.lemmas.Result.{err_from_is_err_and}
use Rattle.chart_players.specs.Under.{framed_under}
use Rattle.chart_opening.proofs.Header.{framed, holds_framed}
use Rattle.calls_players.specs.Same.{count_under}
use Rattle.calls.proofs.Refusals.{accepted_read}
use Rattle.calls.specs.Calls.{record_is, outcome_with}
use Rattle.calls_readings.proofs.OutcomesAs.{record_refused, record_read, passed}
use mathlib.Core.List.{[]}
use native.Mathlib.Omega.{arith}
use mathlib.Core.Path.{sym, ◌∙◌}
use Rattle.calls_readings.proofs.read_record_as.Goals as goal

pub record_at-requires : goal.record_at-requires
record_at-requires c = let a = c.args in let p = passed a.settings.now a.chart.now a.records.now a.place _ (sym c.check_reading_as.ensures ∙ c.in_ok-check_reading_as.was) in let d = accepted_read _ _ _ p.then in (omega (arith, (holds_framed _ (framed _ (framed_under a.settings.now a.chart.now p.header))).few, count_under a.settings.now a.chart.now, d.below), omega (arith, d.room, d.below))

pub returns-in_err-check_reading_as : goal.returns-in_err-check_reading_as
returns-in_err-check_reading_as c =
    let p = err_from_is_err_and c.from_residual.result c.from_residual.ensures.1 in
    rw (p.1, p.2) (let a = c.args in (sym (record_refused a.settings.now a.chart.now a.records.now a.place _ (sym c.check_reading_as.ensures ∙ c.in_err-check_reading_as.was))))

pub returns : goal.returns
returns c = let a = c.args in ((λ i. outcome_with (record_is (c.record_at.ensures i)) a.chart.now a.records.now []) ∙ sym (record_read a.settings.now a.chart.now a.records.now a.place (sym c.check_reading_as.ensures ∙ c.in_ok-check_reading_as.was)))
