-- `calls_readings::check_reading` meets its contract. Assumes nothing.
use Prim.Native.Nat.{◌≤◌}
use mathlib.Core.Path.{sym, ap, ◌∙◌, subst}
use Rattle.chart_fields.specs.Limits.{most_objects}
use Rattle.chart_fields.specs.declared.Layout.{Layout}
use Rattle.chart_opening.proofs.Header.{few, parts}
use Rattle.chart_opening.specs.Conditions.{first_of}
use Rattle.calls.specs.Conditions.{read_conditions}
use borrow.Author.Rules.{rules}
use Rattle.calls_readings.proofs.check_reading.Goals as goal

pub returns-then-not-header_ok : goal.returns-then-not-header_ok
unfolding first_of read_conditions
returns-then-not-header_ok c = simp (sym c.header_ok.ensures ∙ c.if-not-header_ok.true)

pub layout_of-requires : goal.layout_of-requires
layout_of-requires c =
    (parts _ (sym c.header_ok.ensures ∙ c.if-not-header_ok.false)).long

pub check_place-requires : goal.check_place-requires
check_place-requires c =
    let h = sym c.header_ok.ensures ∙ c.if-not-header_ok.false in
    (subst (λ (x : Layout). x.n ≤ most_objects) (sym c.layout_of.ensures) (few _ (parts _ h).counts).objects, search rules, search rules)

pub returns : goal.returns
unfolding first_of read_conditions
returns c =
    simp (sym c.header_ok.ensures ∙ c.if-not-header_ok.false, c.check_place.ensures, ap (λ (x : Layout). x.n) c.layout_of.ensures)
