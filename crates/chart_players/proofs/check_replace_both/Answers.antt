-- `chart_players::check_replace_both` meets its contract. Assumes nothing.
use Rattle.std.proofs.lemmas.Result.{err_from_is_err_and}
use Rattle.chart_replacing.proofs.Accepted.{taken}
use Rattle.chart_players.proofs.Verdicts.{both_first, both_second}
use mathlib.Core.Path.{sym, ◌∙◌}
use Rattle.chart_players.proofs.check_replace_both.Goals as goal

pub check_replace_as-requires : goal.check_replace_as-requires
check_replace_as-requires c = let a = c.args in taken a.chart.now a.place a.object.now a.entries (sym c.check_replace.ensures ∙ c.in_ok-check_replace.was)

pub returns-in_err-check_replace : goal.returns-in_err-check_replace
returns-in_err-check_replace c =
    let p = err_from_is_err_and c.from_residual.result c.from_residual.ensures.1 in
    rw (p.1, p.2) (sym (both_first _ _ _ (sym c.check_replace.ensures ∙ c.in_err-check_replace.was)))

pub returns : goal.returns
returns c = c.check_replace_as.ensures ∙ sym (both_second _ _ (sym c.check_replace.ensures ∙ c.in_ok-check_replace.was))
