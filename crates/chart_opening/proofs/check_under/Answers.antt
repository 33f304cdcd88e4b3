-- `chart_opening::check_under` meets its contract. Assumes nothing.
use Rattle.std.proofs.lemmas.Result.{err_from_is_err_and}
use mathlib.Core.Path.{sym, ◌∙◌}
use native.Mathlib.Omega.{arith}
use borrow.Author.Tests.{lt-ltb, le-ltb}
use Rattle.chart_opening.specs.Conditions.{first_of, under_conditions}
use Rattle.chart_opening.proofs.Body.{body_refuses, body_accepts}
use Rattle.chart_opening.proofs.check_under.Goals as goal

pub returns-then-not-settings_ok : goal.returns-then-not-settings_ok
unfolding under_conditions first_of
returns-then-not-settings_ok c = simp (sym c.settings_ok.ensures ∙ c.if-not-settings_ok.true)

pub check_body-requires : goal.check_body-requires
check_body-requires c = rw c.layout_of-lay.ensures c.requires.1

pub returns-in_err-check_body : goal.returns-in_err-check_body
returns-in_err-check_body c =
    let p = err_from_is_err_and c.from_residual.result c.from_residual.ensures.1 in
    rw (p.1, p.2) (sym (body_refuses _ _ _ c.layout_of-lay.ensures (sym c.settings_ok.ensures ∙ c.if-not-settings_ok.false) c.check_body.ensures _ c.in_err-check_body.was))

pub returns-then-entries-lay : goal.returns-then-entries-lay
returns-then-entries-lay c = sym (body_accepts _ _ _ c.layout_of-lay.ensures (sym c.settings_ok.ensures ∙ c.if-not-settings_ok.false) c.check_body.ensures c.in_ok-check_body.was ∙ simp (lt-ltb c.args.entries c.layout_of-lay.result.n (omega (arith, c.if-entries-lay.true))))

pub returns : goal.returns
returns c = sym (body_accepts _ _ _ c.layout_of-lay.ensures (sym c.settings_ok.ensures ∙ c.if-not-settings_ok.false) c.check_body.ensures c.in_ok-check_body.was ∙ simp (le-ltb c.args.entries c.layout_of-lay.result.n (omega (arith, c.if-entries-lay.false))))
