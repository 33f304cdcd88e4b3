-- `chart_inserting::check_insert_at` meets its contract. Assumes nothing.
use mathlib.Core.Path.{sym, ap, ◌∙◌}
use Rattle.chart_opening.specs.Conditions.{first_of}
use borrow.Author.Tests.{ne_eqb, lt-leb, le-leb}
use native.Mathlib.Omega.{arith}
use lib.ListN.{length}
use Rattle.chart_fields.specs.declared.Layout.{Layout}
use Rattle.chart_opening.proofs.Header.{parts, holds}
use Rattle.chart_opening.specs.Accepted.{header_ok_lem}
use Rattle.chart_inserting.specs.Insert.{insert_place_conditions}
use Rattle.chart_inserting.proofs.Local.{at_insert}
use Rattle.chart_inserting.proofs.check_insert_at.Goals as goal

pub layout_of-lay-requires : goal.layout_of-lay-requires
layout_of-lay-requires c = (parts _ (header_ok_lem _ c.requires)).long

pub returns-then-lay-place : goal.returns-then-lay-place
unfolding first_of insert_place_conditions
returns-then-lay-place c = simp (sym c.layout_of-lay.ensures, lt-leb _ _ c.if-lay-place.true)

pub no_room-requires : goal.no_room-requires
no_room-requires c = (c.layout_of-lay.ensures, header_ok_lem _ c.requires)

pub returns-then-no_room : goal.returns-then-no_room
unfolding first_of insert_place_conditions
returns-then-no_room c = simp (sym c.layout_of-lay.ensures, le-leb _ _ c.if-lay-place.false, sym c.no_room.ensures ∙ c.if-no_room.true)

pub returns-then-object-lay : goal.returns-then-object-lay
unfolding first_of insert_place_conditions
returns-then-object-lay c = simp (sym c.layout_of-lay.ensures, le-leb _ _ c.if-lay-place.false, sym c.no_room.ensures ∙ c.if-no_room.false, ne_eqb (length c.args.object.now) c.layout_of-lay.result.object_size (omega (arith, c.if-object-lay.true)))

pub settings_at-settings-requires : goal.settings_at-settings-requires
settings_at-settings-requires c = (parts _ (header_ok_lem _ c.requires)).long

pub fields_at-f-requires : goal.fields_at-f-requires
fields_at-f-requires c =
    let size = (holds _ (header_ok_lem _ c.requires)).size_least in
    let same = ap (λ (l : Layout). l.object_size) c.layout_of-lay.ensures in (
      omega (arith, same, size),
      omega (arith, c.if-object-lay.false),
    )

pub long_with-long-requires : goal.long_with-long-requires
long_with-long-requires c = (rw c.layout_of-lay.ensures (holds _ (header_ok_lem _ c.requires)), c.if-lay-place.false)

pub check_object-requires : goal.check_object-requires
check_object-requires c = (rw c.layout_of-lay.ensures (holds _ (header_ok_lem _ c.requires)), c.if-lay-place.false)

pub returns : goal.returns
returns c = c.check_object.ensures ∙ rw (c.long_with-long.ensures, c.fields_at-f.ensures, c.layout_of-lay.ensures, c.settings_at-settings.ensures) (at_insert _ _ _ c.requires (rw c.layout_of-lay.ensures at c.if-lay-place.false) (sym c.no_room.ensures ∙ c.if-no_room.false) (rw c.layout_of-lay.ensures at c.if-object-lay.false))
