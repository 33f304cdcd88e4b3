-- `chart_players::insert_both` meets its contract. Assumes nothing.
use Rattle.std.proofs.lemmas.Result.{err_from_is_err_and}
use Rattle.chart_opening.specs.Conditions.{if_accepted}
use Rattle.chart_inserting.proofs.Accepted.{inserted}
use Rattle.chart_players.proofs.Verdicts.{both_accepted}
use mathlib.Core.Path.{sym, ◌∙◌}
use borrow.Author.Rules.{rules}
use Rattle.chart_players.proofs.insert_both.Goals as goal

pub put_in-requires : goal.put_in-requires
put_in-requires c = let a = c.args in inserted a.chart.now a.place a.object.now a.entries (both_accepted _ _ (sym c.check_insert_both.ensures ∙ c.in_ok-check_insert_both.was)).0

pub returns-in_err-check_insert_both : goal.returns-in_err-check_insert_both
unfolding if_accepted
returns-in_err-check_insert_both c =
    let p = err_from_is_err_and c.from_residual.result c.from_residual.ensures.1 in
    rw (p.1, p.2) (
    record {
      answer = sym c.in_err-check_insert_both.was ∙ c.check_insert_both.ensures;
      chart = search rules;
    }
    )

pub returns : goal.returns
unfolding if_accepted
returns c = record {
  answer = sym c.in_ok-check_insert_both.was ∙ c.check_insert_both.ensures;
  chart = c.put_in.ensures;
}
