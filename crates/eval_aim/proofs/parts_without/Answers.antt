-- `eval_aim::parts_without` meets its contract. Assumes nothing.
use mathlib.Core.Path.{◌≡◌, sym, ap₂, ◌∙◌}
use mathlib.Core.Bool.{false, ◌||◌}
use Prim.Native.Nat.{◌-◌}
use borrow.Author.Rules.{rules}
use Rattle.osu_object.specs.Osu.{object_of}
use Rattle.osu_object.specs.Base.{base_of}
use Rattle.osu_object.specs.declared.BaseObject.{BaseObject}
use Rattle.osu_records.specs.Rows.{record_at}
use Rattle.osu_records.specs.Sight.{view_of}
use Rattle.eval_aim.proofs.Value.{parts_plain}
use Rattle.eval_aim.proofs.parts_without.Goals as goal

pub returns : goal.returns
returns c =
    let a = c.args in
    let tested : (c.base_at-last.result.slider || c.base_at-last_last.result.slider) ≡ false = search rules in
    let none : ((base_of (object_of a.chart.now a.lay (a.j - 1))).slider || (base_of (object_of a.chart.now a.lay (a.j - 2))).slider) ≡ false =
    sym (ap₂ (λ (x y : BaseObject). x.slider || y.slider) c.base_at-last.ensures c.base_at-last_last.ensures) ∙ tested in
    c.requires.4 ∙ parts_plain (view_of (object_of a.chart.now a.lay) (record_at a.t.now) a.j) (a.j - 1) none
