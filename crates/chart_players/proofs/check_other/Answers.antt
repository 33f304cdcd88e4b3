-- `chart_players::check_other` meets its contract. Assumes nothing.
use Rattle.chart_opening.proofs.Header.{parts, holds}
use Rattle.chart_opening.specs.Accepted.{header_ok_lem}
use Rattle.chart_opening.specs.Conditions.{first_of}
use Rattle.chart_opening.specs.Header.{settings_ok, too_long}
use Rattle.chart_players.proofs.Verdicts.{second_header, second_size, tried_other}
use borrow.Author.Tests.{lt-ltb, le-ltb, ne_eqb}
use mathlib.Core.Path.{sym, ap, ◌∙◌}
use Rattle.chart_players.proofs.check_other.Goals as goal

pub returns-then-not-header_ok_as : goal.returns-then-not-header_ok_as
returns-then-not-header_ok_as c = let a = c.args in sym (second_header a.settings.now a.chart.now _ (sym c.header_ok_as.ensures ∙ c.if-not-header_ok_as.true))

pub returns-then-settings-ne-SETTINGS_SIZE : goal.returns-then-settings-ne-SETTINGS_SIZE
returns-then-settings-ne-SETTINGS_SIZE c = let a = c.args in sym (second_size a.settings.now a.chart.now _ (sym c.header_ok_as.ensures ∙ c.if-not-header_ok_as.false) (ne_eqb _ _ c.if-settings-ne-SETTINGS_SIZE.true))

pub returns-then-not-settings_ok : goal.returns-then-not-settings_ok
unfolding first_of
returns-then-not-settings_ok c = let a = c.args in let h = sym c.header_ok_as.ensures ∙ c.if-not-header_ok_as.false in let i = c.if-settings-ne-SETTINGS_SIZE.false in sym (tried_other a.settings.now a.chart.now a.entries h i c.requires a.least ∙ simp (ap settings_ok (sym c.settings_at-set.ensures) ∙ (sym c.settings_ok.ensures ∙ c.if-not-settings_ok.true)))

pub layout_of-lay-requires : goal.layout_of-lay-requires
layout_of-lay-requires c = (parts _ (header_ok_lem _ c.requires)).long

pub too_long-requires : goal.too_long-requires
too_long-requires c = rw c.layout_of-lay.ensures (holds _ (header_ok_lem _ c.requires))

pub returns-then-too_long : goal.returns-then-too_long
unfolding first_of
returns-then-too_long c = let a = c.args in let h = sym c.header_ok_as.ensures ∙ c.if-not-header_ok_as.false in let i = c.if-settings-ne-SETTINGS_SIZE.false in sym (tried_other a.settings.now a.chart.now a.entries h i c.requires a.least ∙ simp (ap settings_ok (sym c.settings_at-set.ensures) ∙ (sym c.settings_ok.ensures ∙ c.if-not-settings_ok.false), (λ j. too_long a.chart.now (sym c.layout_of-lay.ensures j) (sym c.settings_at-set.ensures j).clock_rate) ∙ (sym c.too_long.ensures ∙ c.if-too_long.true)))

pub returns-then-entries-least : goal.returns-then-entries-least
unfolding first_of
returns-then-entries-least c = let a = c.args in let h = sym c.header_ok_as.ensures ∙ c.if-not-header_ok_as.false in let i = c.if-settings-ne-SETTINGS_SIZE.false in sym (tried_other a.settings.now a.chart.now a.entries h i c.requires a.least ∙ simp (ap settings_ok (sym c.settings_at-set.ensures) ∙ (sym c.settings_ok.ensures ∙ c.if-not-settings_ok.false), (λ j. too_long a.chart.now (sym c.layout_of-lay.ensures j) (sym c.settings_at-set.ensures j).clock_rate) ∙ (sym c.too_long.ensures ∙ c.if-too_long.false), lt-ltb a.entries a.least c.if-entries-least.true))

pub returns : goal.returns
unfolding first_of
returns c = let a = c.args in let h = sym c.header_ok_as.ensures ∙ c.if-not-header_ok_as.false in let i = c.if-settings-ne-SETTINGS_SIZE.false in sym (tried_other a.settings.now a.chart.now a.entries h i c.requires a.least ∙ simp (ap settings_ok (sym c.settings_at-set.ensures) ∙ (sym c.settings_ok.ensures ∙ c.if-not-settings_ok.false), (λ j. too_long a.chart.now (sym c.layout_of-lay.ensures j) (sym c.settings_at-set.ensures j).clock_rate) ∙ (sym c.too_long.ensures ∙ c.if-too_long.false), le-ltb a.entries a.least c.if-entries-least.false))
