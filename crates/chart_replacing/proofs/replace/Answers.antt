-- `chart_replacing::replace` meets its contract. Assumes nothing.
use Rattle.std.proofs.lemmas.Result.{err_from_is_err_and}
use mathlib.Core.Path.{sym, ◌∙◌}
use Rattle.chart_opening.specs.Conditions.{if_accepted}
use Rattle.chart_replacing.proofs.Accepted.{taken}
use borrow.Author.Rules.{rules}
use Rattle.chart_replacing.proofs.replace.Goals as goal

pub put_object-requires : goal.put_object-requires
put_object-requires c = taken _ _ _ _ (sym c.check_replace.ensures ∙ c.in_ok-check_replace.was)

pub returns-in_err-check_replace : goal.returns-in_err-check_replace
unfolding if_accepted
returns-in_err-check_replace c =
    let p = err_from_is_err_and c.from_residual.result c.from_residual.ensures.1 in
    rw (p.1, p.2) (
    record {
      answer = sym c.in_err-check_replace.was ∙ c.check_replace.ensures;
      chart = search rules;
    }
    )

pub returns : goal.returns
unfolding if_accepted
returns c = record {
  answer = sym c.in_ok-check_replace.was ∙ c.check_replace.ensures;
  chart = c.put_object.ensures;
}
