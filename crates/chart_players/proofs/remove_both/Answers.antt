-- `chart_players::remove_both` meets its contract. Assumes nothing.
use Rattle.std.proofs.lemmas.Result.{err_from_is_err_and}
use Rattle.chart_opening.specs.Conditions.{if_accepted}
use Rattle.chart_inserting.proofs.Accepted.{removed}
use Rattle.chart_players.proofs.Verdicts.{both_accepted}
use mathlib.Core.Path.{sym, ◌∙◌}
use borrow.Author.Rules.{rules}
use Rattle.chart_players.proofs.remove_both.Goals as goal

pub take_out-requires : goal.take_out-requires
take_out-requires c = let a = c.args in removed a.chart.now a.place a.entries (both_accepted _ _ (sym c.check_remove_both.ensures ∙ c.in_ok-check_remove_both.was)).0

pub returns-in_err-check_remove_both : goal.returns-in_err-check_remove_both
unfolding if_accepted
returns-in_err-check_remove_both c =
    let p = err_from_is_err_and c.from_residual.result c.from_residual.ensures.1 in
    rw (p.1, p.2) (
    record {
      answer = sym c.in_err-check_remove_both.was ∙ c.check_remove_both.ensures;
      chart = search rules;
    }
    )

pub returns : goal.returns
unfolding if_accepted
returns c = record {
  answer = sym c.in_ok-check_remove_both.was ∙ c.check_remove_both.ensures;
  chart = c.take_out.ensures;
}
