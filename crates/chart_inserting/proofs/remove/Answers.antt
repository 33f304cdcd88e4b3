-- `chart_inserting::remove` meets its contract. Assumes nothing.
use Rattle.std.proofs.lemmas.Result.{err_from_is_err_and}
use mathlib.Core.Path.{sym, ◌∙◌}
use Rattle.chart_opening.specs.Conditions.{if_accepted}
use Rattle.chart_inserting.proofs.Accepted.{removed}
use borrow.Author.Rules.{rules}
use Rattle.chart_inserting.proofs.remove.Goals as goal

pub take_out-requires : goal.take_out-requires
take_out-requires c = removed _ _ _ (sym c.check_remove.ensures ∙ c.in_ok-check_remove.was)

pub returns-in_err-check_remove : goal.returns-in_err-check_remove
unfolding if_accepted
returns-in_err-check_remove c =
    let p = err_from_is_err_and c.from_residual.result c.from_residual.ensures.1 in
    rw (p.1, p.2) (
    record {
      answer = sym c.in_err-check_remove.was ∙ c.check_remove.ensures;
      chart = search rules;
    }
    )

pub returns : goal.returns
unfolding if_accepted
returns c = record {
  answer = sym c.in_ok-check_remove.was ∙ c.check_remove.ensures;
  chart = c.take_out.ensures;
}
