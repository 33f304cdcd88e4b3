-- `chart_replacing::check_at` meets its contract: `at_place` says that what `check_new` tests is asked. Assumes nothing.
use mathlib.Core.Path.{sym, ◌∙◌, ap}
use native.Mathlib.Omega.{arith}
use borrow.Author.Tests.{le-ltb}
use Rattle.chart_fields.specs.declared.Layout.{Layout}
use Rattle.chart_opening.proofs.Header.{parts, holds}
use Rattle.chart_opening.specs.Accepted.{header_ok_lem}
use Rattle.chart_opening.specs.Conditions.{first_of}
use Rattle.chart_replacing.specs.Replace.{place_conditions}
use Rattle.chart_replacing.proofs.Local.{at_place}
use Rattle.chart_replacing.proofs.check_at.Goals as goal

pub layout_of-lay-requires : goal.layout_of-lay-requires
layout_of-lay-requires c = (parts _ (header_ok_lem _ c.requires)).long

pub returns-then-lay-place : goal.returns-then-lay-place
unfolding first_of place_conditions
returns-then-lay-place c = simp (sym c.layout_of-lay.ensures, le-ltb _ _ c.if-lay-place.true)

pub settings_at-settings-requires : goal.settings_at-settings-requires
settings_at-settings-requires c = (parts _ (header_ok_lem _ c.requires)).long

pub fields_at-f-requires : goal.fields_at-f-requires
fields_at-f-requires c =
    let size = (holds _ (header_ok_lem _ c.requires)).size_least in
    let same = ap (λ (l : Layout). l.object_size) c.layout_of-lay.ensures in (
      omega (arith, same, size),
      omega arith,
    )

pub check_new-requires : goal.check_new-requires
check_new-requires c = (rw c.layout_of-lay.ensures (holds _ (header_ok_lem _ c.requires)), c.if-lay-place.false)

pub returns : goal.returns
returns c =
    c.check_new.ensures
    ∙ rw (c.fields_at-f.ensures, c.layout_of-lay.ensures, c.settings_at-settings.ensures)
    (at_place _ _ _ c.requires (rw c.layout_of-lay.ensures at c.if-lay-place.false) (omega (arith, ap (λ (l : Layout). l.object_size) c.layout_of-lay.ensures)))
