-- `chart_inserting::check_insert` meets its contract. Assumes nothing.
use Rattle.std.proofs.lemmas.Result.{err_from_is_err_and}
use mathlib.Core.Path.{sym, ap, ◌∙◌}
use native.Mathlib.Omega.{arith}
use Rattle.chart_opening.specs.Accepted.{opens}
use Rattle.chart_fields.specs.declared.Layout.{Layout}
use Rattle.chart_opening.proofs.Header.{parts, holds}
use Rattle.chart_opening.specs.Accepted.{header_ok_lem}
use Rattle.chart_inserting.proofs.Checked.{refused, short, passed}
use Rattle.chart_inserting.proofs.check_insert.Goals as goal

pub layout_of-lay-requires : goal.layout_of-lay-requires
layout_of-lay-requires c = (parts _ (header_ok_lem _ (opens _ _ (sym c.check.ensures ∙ c.in_ok-check.was)))).long

pub overflow_add-lay : goal.overflow_add-lay
overflow_add-lay c = omega (arith, ap (λ (l : Layout). l.n) c.layout_of-lay.ensures, (holds _ (header_ok_lem _ (opens _ _ (sym c.check.ensures ∙ c.in_ok-check.was)))).few)

pub check_insert_at-requires : goal.check_insert_at-requires
check_insert_at-requires c = opens _ _ (sym c.check.ensures ∙ c.in_ok-check.was)

pub returns-in_err-check : goal.returns-in_err-check
returns-in_err-check c =
    let p = err_from_is_err_and c.from_residual.result c.from_residual.ensures.1 in
    rw (p.1, p.2) (sym (refused _ _ _ _ _ (sym c.check.ensures ∙ c.in_err-check.was)))

pub returns-then-entries-lay : goal.returns-then-entries-lay
returns-then-entries-lay c = sym (short _ _ _ _ (opens _ _ (sym c.check.ensures ∙ c.in_ok-check.was)) (omega (arith, c.if-entries-lay.true, ap (λ (l : Layout). l.n) c.layout_of-lay.ensures)))

pub returns : goal.returns
returns c = c.check_insert_at.ensures ∙ sym (passed _ _ _ _ (opens _ _ (sym c.check.ensures ∙ c.in_ok-check.was)) (omega (arith, c.if-entries-lay.false, ap (λ (l : Layout). l.n) c.layout_of-lay.ensures)))
