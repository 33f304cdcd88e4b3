-- `chart_players::header_ok_as` meets its contract. Assumes nothing.
use Rattle.chart_players.specs.Under.{header_none, header_under, flags_none, for_settings}
use Rattle.chart_opening.proofs.Header.{framed}
use borrow.Author.Tests.{ne_eqb}
use mathlib.Core.Bool.{not}
use mathlib.Core.Path.{sym, ap, ◌∙◌}
use Rattle.chart_players.proofs.header_ok_as.Goals as goal

pub returns-then-settings-ne-SETTINGS_SIZE : goal.returns-then-settings-ne-SETTINGS_SIZE
returns-then-settings-ne-SETTINGS_SIZE c =
    let a = c.args in
    let f = sym c.frame_ok.ensures ∙ c.if-frame_ok.true in
    let n = ne_eqb _ _ c.if-settings-ne-SETTINGS_SIZE.true in
    ap not n ∙ sym (header_under a.settings.now a.chart.now (framed _ f).long ∙ simp (f, flags_none a.settings.now n))

pub returns-else-settings-ne-SETTINGS_SIZE : goal.returns-else-settings-ne-SETTINGS_SIZE
returns-else-settings-ne-SETTINGS_SIZE c =
    let a = c.args in
    let f = sym c.frame_ok.ensures ∙ c.if-frame_ok.true in
    c.flags_ok.ensures
    ∙ sym (header_under a.settings.now a.chart.now (framed _ f).long ∙ simp (f, for_settings a.settings.now c.if-settings-ne-SETTINGS_SIZE.false, c.u32_at.ensures))

pub returns-else-frame_ok : goal.returns-else-frame_ok
returns-else-frame_ok c =
    let a = c.args in
    c.if-frame_ok.false ∙ sym (header_none a.settings.now a.chart.now (sym c.frame_ok.ensures ∙ c.if-frame_ok.false))
