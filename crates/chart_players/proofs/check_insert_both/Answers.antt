-- `chart_players::check_insert_both` meets its contract. Assumes nothing.
use Rattle.std.proofs.lemmas.Result.{err_from_is_err_and}
use Rattle.chart_inserting.proofs.Accepted.{inserted}
use Rattle.chart_players.proofs.Verdicts.{both_first, both_second}
use mathlib.Core.Path.{sym, ◌∙◌}
use Rattle.chart_players.proofs.check_insert_both.Goals as goal

pub check_insert_as-requires : goal.check_insert_as-requires
check_insert_as-requires c = let a = c.args in inserted a.chart.now a.place a.object.now a.entries (sym c.check_insert.ensures ∙ c.in_ok-check_insert.was)

pub returns-in_err-check_insert : goal.returns-in_err-check_insert
returns-in_err-check_insert c =
    let p = err_from_is_err_and c.from_residual.result c.from_residual.ensures.1 in
    rw (p.1, p.2) (sym (both_first _ _ _ (sym c.check_insert.ensures ∙ c.in_err-check_insert.was)))

pub returns : goal.returns
returns c = c.check_insert_as.ensures ∙ sym (both_second _ _ (sym c.check_insert.ensures ∙ c.in_ok-check_insert.was))
