-- `chart_opening::check_body` meets its contract. Assumes nothing.
use Prim.Native.Nat.{◌≤◌}
use mathlib.Core.Path.{sym, ◌∙◌}
use native.Mathlib.Omega.{arith}
use borrow.Author.Tests.{le-ltb, ltb-false}
use Rattle.chart_fields.specs.Search.{first_below}
use Rattle.chart_opening.specs.Conditions.{first_of, at_fault, body_conditions}
use Rattle.chart_opening.proofs.Faults.{no_bad_fields, no_bad_entries, no_falls}
use Rattle.chart_opening.proofs.check_body.Goals as goal

pub returns-then-too_long : goal.returns-then-too_long
unfolding first_of body_conditions
returns-then-too_long c =
    let a = c.args in
    let h : a.lay.n ≤ first_below (at_fault a.chart.now a.lay) a.lay.n = ltb-false _ _ (sym c.has_fault.ensures ∙ c.if-has_fault.false) in
    simp (
      no_bad_fields a.chart.now a.lay h,
      no_bad_entries a.chart.now a.lay h,
      no_falls a.chart.now a.lay h,
      le-ltb a.lay.n a.lay.n (omega arith),
      sym c.too_long.ensures ∙ c.if-too_long.true,
    )

pub returns : goal.returns
unfolding first_of body_conditions
returns c =
    let a = c.args in
    let h : a.lay.n ≤ first_below (at_fault a.chart.now a.lay) a.lay.n = ltb-false _ _ (sym c.has_fault.ensures ∙ c.if-has_fault.false) in
    simp (
      no_bad_fields a.chart.now a.lay h,
      no_bad_entries a.chart.now a.lay h,
      no_falls a.chart.now a.lay h,
      le-ltb a.lay.n a.lay.n (omega arith),
      sym c.too_long.ensures ∙ c.if-too_long.false,
    )
