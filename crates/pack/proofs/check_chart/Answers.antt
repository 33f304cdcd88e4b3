-- `pack::check_chart` meets its contract. Assumes nothing.
use Rattle.std.proofs.lemmas.Result.{err_from_is_err_and}
use mathlib.Core.Path.{sym, ◌∙◌}
use Rattle.pack.proofs.Checks.{check_refused, check_short, check_infinite, check_passed}
use Rattle.pack.proofs.check_chart.Goals as goal

pub returns-then-short : goal.returns-then-short
returns-then-short c = check_short _ _ _ _ (sym c.check.ensures ∙ c.in_ok-check.was) c.if-short.true

pub returns-then-not-finite : goal.returns-then-not-finite
returns-then-not-finite c = check_infinite _ _ _ _ (sym c.check.ensures ∙ c.in_ok-check.was) c.if-short.false c.if-not-finite.true

pub returns-in_err-check : goal.returns-in_err-check
returns-in_err-check c =
    let p = err_from_is_err_and c.from_residual.result c.from_residual.ensures.1 in
    rw (p.1, p.2) (check_refused _ _ _ _ (sym c.check.ensures ∙ c.in_err-check.was))

pub returns : goal.returns
returns c = check_passed _ _ _ _ (sym c.check.ensures ∙ c.in_ok-check.was) c.if-short.false c.if-not-finite.false
