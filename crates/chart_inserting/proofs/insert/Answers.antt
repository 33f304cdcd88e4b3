-- `chart_inserting::insert` meets its contract. Assumes nothing.
use Rattle.std.proofs.lemmas.Result.{err_from_is_err_and}
use mathlib.Core.Path.{sym, ◌∙◌}
use Rattle.chart_opening.specs.Conditions.{if_accepted}
use Rattle.chart_inserting.proofs.Accepted.{inserted}
use borrow.Author.Rules.{rules}
use Rattle.chart_inserting.proofs.insert.Goals as goal

pub put_in-requires : goal.put_in-requires
put_in-requires c = inserted _ _ _ _ (sym c.check_insert.ensures ∙ c.in_ok-check_insert.was)

pub returns-in_err-check_insert : goal.returns-in_err-check_insert
unfolding if_accepted
returns-in_err-check_insert c =
    let p = err_from_is_err_and c.from_residual.result c.from_residual.ensures.1 in
    rw (p.1, p.2) (
    record {
      answer = sym c.in_err-check_insert.was ∙ c.check_insert.ensures;
      chart = search rules;
    }
    )

pub returns : goal.returns
unfolding if_accepted
returns c = record {
  answer = sym c.in_ok-check_insert.was ∙ c.check_insert.ensures;
  chart = c.put_in.ensures;
}
