-- `calls_figures::check_lent` meets its contract. Assumes nothing.
use Rattle.std.proofs.lemmas.Result.{err_from_is_err_and}
use mathlib.Core.Path.{sym, ap, ◌∙◌}
use native.Mathlib.Omega.{arith}
use Rattle.chart_opening.specs.declared.Settings.{Settings}
use Rattle.chart_opening.proofs.Header.{framed}
use Rattle.chart_players.specs.Under.{framed_under}
use Rattle.chart_players.proofs.Verdicts.{second_accepted}
use Rattle.calls_figures.proofs.Outcomes.{sums_refused, sums_passed}
use Rattle.calls_figures.proofs.check_lent.Goals as goal

pub returns-in_err-check_as : goal.returns-in_err-check_as
returns-in_err-check_as c =
    let p = err_from_is_err_and c.from_residual.result c.from_residual.ensures.1 in
    rw (p.1, p.2) (sums_refused _ _ _ _ _ (sym c.check_as.ensures ∙ c.in_err-check_as.was))

pub returns-then-scratch_short : goal.returns-then-scratch_short
returns-then-scratch_short c =
    sums_passed _ _ _ _ (sym c.check_as.ensures ∙ c.in_ok-check_as.was) ∙ simp (sym c.scratch_short.ensures ∙ c.if-scratch_short.true)

pub layout_of-requires : goal.layout_of-requires
layout_of-requires c =
    let a = c.args in
    let p = second_accepted a.settings.now a.chart.now _ (sym c.check_as.ensures ∙ c.in_ok-check_as.was) in
    (framed a.chart.now (framed_under a.settings.now a.chart.now p.header)).long

pub settings_at-requires : goal.settings_at-requires
settings_at-requires c =
    let a = c.args in
    omega (arith, (second_accepted a.settings.now a.chart.now _ (sym c.check_as.ensures ∙ c.in_ok-check_as.was)).size)

pub returns : goal.returns
returns c = (
  sums_passed _ _ _ _ (sym c.check_as.ensures ∙ c.in_ok-check_as.was) ∙ simp (sym c.scratch_short.ensures ∙ c.if-scratch_short.false),
  c.layout_of.ensures,
  ap (λ (s : Settings). s.clock_rate) c.settings_at.ensures,
)
