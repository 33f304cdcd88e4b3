-- `chart_inserting::check_remove_at` meets its contract. Assumes nothing.
use mathlib.Core.Path.{sym, ◌∙◌}
use Rattle.chart_opening.specs.Conditions.{first_of}
use borrow.Author.Tests.{le-ltb}
use Rattle.chart_opening.proofs.Header.{parts, holds}
use Rattle.chart_opening.specs.Accepted.{header_ok_lem}
use Rattle.chart_inserting.specs.Insert.{remove_place_conditions}
use Rattle.chart_inserting.proofs.Without.{at_remove}
use Rattle.chart_inserting.proofs.check_remove_at.Goals as goal

pub layout_of-lay-requires : goal.layout_of-lay-requires
layout_of-lay-requires c = (parts _ (header_ok_lem _ c.requires)).long

pub returns-then-lay-place : goal.returns-then-lay-place
unfolding first_of remove_place_conditions
returns-then-lay-place c = simp (sym c.layout_of-lay.ensures, le-ltb _ _ c.if-lay-place.true)

pub settings_at-settings-requires : goal.settings_at-settings-requires
settings_at-settings-requires c = (parts _ (header_ok_lem _ c.requires)).long

pub check_without-requires : goal.check_without-requires
check_without-requires c = (rw c.layout_of-lay.ensures (holds _ (header_ok_lem _ c.requires)), c.if-lay-place.false)

pub returns : goal.returns
returns c = c.check_without.ensures ∙ rw (c.layout_of-lay.ensures, c.settings_at-settings.ensures) (at_remove _ _ c.requires (rw c.layout_of-lay.ensures at c.if-lay-place.false))
