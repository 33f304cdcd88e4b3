-- `chart_players::check_remove_both` meets its contract. Assumes nothing.
use Rattle.std.proofs.lemmas.Result.{err_from_is_err_and}
use Rattle.chart_inserting.proofs.Accepted.{removed}
use Rattle.chart_players.proofs.Verdicts.{both_first, both_second}
use mathlib.Core.Path.{sym, ◌∙◌}
use Rattle.chart_players.proofs.check_remove_both.Goals as goal

pub check_remove_as-requires : goal.check_remove_as-requires
check_remove_as-requires c = let a = c.args in removed a.chart.now a.place a.entries (sym c.check_remove.ensures ∙ c.in_ok-check_remove.was)

pub returns-in_err-check_remove : goal.returns-in_err-check_remove
returns-in_err-check_remove c =
    let p = err_from_is_err_and c.from_residual.result c.from_residual.ensures.1 in
    rw (p.1, p.2) (sym (both_first _ _ _ (sym c.check_remove.ensures ∙ c.in_err-check_remove.was)))

pub returns : goal.returns
returns c = c.check_remove_as.ensures ∙ sym (both_second _ _ (sym c.check_remove.ensures ∙ c.in_ok-check_remove.was))
