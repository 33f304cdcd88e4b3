-- `station::refuse_sums` meets its contract. Assumes nothing.
use mathlib.Core.Path.{sym, ◌∙◌}
use mathlib.Core.Bool.{true}
use Rattle.calls_figures.proofs.Outcomes.{sums_refused, sums_passed}
use Rattle.station.proofs.refuse_sums.Goals as goal

pub returns-in-Err : goal.returns-in-Err
returns-in-Err c =
    let a = c.args in
    sym (sums_refused a.settings.now a.chart.now a.entries true _ (sym c.check_as.ensures ∙ c.in-Err.is))

pub returns-in-Ok : goal.returns-in-Ok
returns-in-Ok c =
    let a = c.args in
    sym (sums_passed a.settings.now a.chart.now a.entries true (sym c.check_as.ensures ∙ c.in-Ok.is))
