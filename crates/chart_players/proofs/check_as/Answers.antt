-- `chart_players::check_as` meets its contract. Assumes nothing.
use Rattle.chart_opening.specs.Conditions.{first_of, under_conditions}
use Rattle.chart_opening.proofs.Header.{framed, holds_framed}
use Rattle.chart_players.specs.Under.{framed_under}
use Rattle.chart_players.proofs.Verdicts.{second_header, second_size, second_passed, long_enough, open_under}
use borrow.Author.Tests.{eq-eqb, ne_eqb}
use mathlib.Core.Path.{sym, ap, ◌∙◌}
use Rattle.chart_players.proofs.check_as.Goals as goal

pub returns-then-not-header_ok_as : goal.returns-then-not-header_ok_as
returns-then-not-header_ok_as c = let a = c.args in sym (second_header a.settings.now a.chart.now _ (sym c.header_ok_as.ensures ∙ c.if-not-header_ok_as.true))

pub returns-then-settings-ne-SETTINGS_SIZE : goal.returns-then-settings-ne-SETTINGS_SIZE
returns-then-settings-ne-SETTINGS_SIZE c = let a = c.args in sym (second_size a.settings.now a.chart.now _ (sym c.header_ok_as.ensures ∙ c.if-not-header_ok_as.false) (ne_eqb _ _ c.if-settings-ne-SETTINGS_SIZE.true))

pub check_under-requires : goal.check_under-requires
check_under-requires c = let a = c.args in let h = sym c.header_ok_as.ensures ∙ c.if-not-header_ok_as.false in (long_enough a.settings.now a.chart.now h c.if-settings-ne-SETTINGS_SIZE.false, holds_framed a.chart.now (framed a.chart.now (framed_under a.settings.now a.chart.now h)))

pub returns : goal.returns
returns c = let a = c.args in let h = sym c.header_ok_as.ensures ∙ c.if-not-header_ok_as.false in let i = c.if-settings-ne-SETTINGS_SIZE.false in (c.check_under.ensures ∙ ap (λ s. first_of (under_conditions a.chart.now s a.entries)) c.settings_at.ensures) ∙ sym (second_passed a.settings.now a.chart.now _ h (eq-eqb _ _ i) ∙ open_under a.settings.now a.chart.now h i a.entries)
