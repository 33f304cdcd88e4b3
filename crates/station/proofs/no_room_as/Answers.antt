-- `station::no_room_as` meets its contract. Assumes nothing.
use mathlib.Core.Path.{sym, ◌∙◌}
use borrow.Author.Tests.{eq-eqb, ne_eqb}
use Rattle.chart_players.proofs.Verdicts.{second_header, second_size, second_passed}
use Rattle.station.proofs.no_room_as.Goals as goal

pub returns-then-not-header_ok_as : goal.returns-then-not-header_ok_as
returns-then-not-header_ok_as c = let a = c.args in sym (second_header a.settings.now a.chart.now _ (sym c.header_ok_as.ensures ∙ c.if-not-header_ok_as.true))

pub returns-then-settings-ne-SETTINGS_SIZE : goal.returns-then-settings-ne-SETTINGS_SIZE
returns-then-settings-ne-SETTINGS_SIZE c =
    let a = c.args in
    sym (second_size a.settings.now a.chart.now _ (sym c.header_ok_as.ensures ∙ c.if-not-header_ok_as.false) (ne_eqb _ _ c.if-settings-ne-SETTINGS_SIZE.true))

pub returns : goal.returns
returns c =
    let a = c.args in
    sym (second_passed a.settings.now a.chart.now _ (sym c.header_ok_as.ensures ∙ c.if-not-header_ok_as.false) (eq-eqb _ _ c.if-settings-ne-SETTINGS_SIZE.false))
