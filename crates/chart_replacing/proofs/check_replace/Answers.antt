-- `chart_replacing::check_replace` meets its contract. Assumes nothing.
use Rattle.std.proofs.lemmas.Result.{err_from_is_err_and}
use mathlib.Core.Path.{sym, ◌∙◌}
use Rattle.chart_replacing.specs.Replace.{replace_conditions}
use Rattle.chart_opening.specs.Accepted.{opens, first_refused, first_passed}
use Rattle.chart_replacing.proofs.check_replace.Goals as goal

pub check_at-requires : goal.check_at-requires
check_at-requires c = opens _ _ (sym c.check.ensures ∙ c.in_ok-check.was)

pub returns-in_err-check : goal.returns-in_err-check
unfolding replace_conditions
returns-in_err-check c =
    let p = err_from_is_err_and c.from_residual.result c.from_residual.ensures.1 in
    rw (p.1, p.2) (sym (first_refused _ _ _ (sym c.check.ensures ∙ c.in_err-check.was)))

pub returns : goal.returns
unfolding replace_conditions
returns c = c.check_at.ensures ∙ sym (first_passed _ _ (sym c.check.ensures ∙ c.in_ok-check.was))
