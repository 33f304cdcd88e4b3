-- `calls_readings::check_reading_as` meets its contract. Assumes nothing.
use Rattle.calls_players.specs.Same.{count_under}
use Rattle.chart_players.proofs.Verdicts.{second_header, second_size, second_passed, long_enough}
use Rattle.calls.specs.Conditions.{read_conditions}
use Rattle.chart_opening.specs.Conditions.{first_of}
use Rattle.chart_fields.specs.Limits.{most_objects}
use Rattle.chart_fields.specs.declared.Layout.{Layout}
use Rattle.chart_opening.proofs.Header.{few, framed}
use Rattle.chart_players.specs.Under.{framed_under}
use borrow.Author.Tests.{eq-eqb, ne_eqb}
use Prim.Native.Nat.{◌≤◌}
use mathlib.Core.Path.{sym, ap, ◌∙◌, subst}
use borrow.Author.Rules.{rules}
use Rattle.calls_readings.proofs.check_reading_as.Goals as goal

pub returns-then-not-header_ok_as : goal.returns-then-not-header_ok_as
returns-then-not-header_ok_as c = let a = c.args in sym (second_header a.settings.now a.chart.now _ (sym c.header_ok_as.ensures ∙ c.if-not-header_ok_as.true))

pub returns-then-settings-ne-SETTINGS_SIZE : goal.returns-then-settings-ne-SETTINGS_SIZE
returns-then-settings-ne-SETTINGS_SIZE c = let a = c.args in sym (second_size a.settings.now a.chart.now _ (sym c.header_ok_as.ensures ∙ c.if-not-header_ok_as.false) (ne_eqb _ _ c.if-settings-ne-SETTINGS_SIZE.true))

pub layout_of-requires : goal.layout_of-requires
layout_of-requires c = let a = c.args in long_enough a.settings.now a.chart.now (sym c.header_ok_as.ensures ∙ c.if-not-header_ok_as.false) c.if-settings-ne-SETTINGS_SIZE.false

pub check_place-requires : goal.check_place-requires
check_place-requires c =
    let a = c.args in
    let h = sym c.header_ok_as.ensures ∙ c.if-not-header_ok_as.false in
    (subst (λ (x : Layout). x.n ≤ most_objects) (sym c.layout_of.ensures) (few _ (framed _ (framed_under a.settings.now a.chart.now h)).counts).objects, search rules, search rules)

pub returns : goal.returns
unfolding first_of read_conditions
returns c =
    let a = c.args in
    let h = sym c.header_ok_as.ensures ∙ c.if-not-header_ok_as.false in
    sym (second_passed a.settings.now a.chart.now _ h (eq-eqb _ _ c.if-settings-ne-SETTINGS_SIZE.false) ∙ simp (h, count_under a.settings.now a.chart.now, c.check_place.ensures, sym (ap (λ (x : Layout). x.n) c.layout_of.ensures)))
