-- `eval_aim::evaluate_both` meets its contract. Assumes nothing.
use mathlib.Core.Path.{◌∙◌}
use mathlib.Core.Bool.{true, false}
use Prim.Native.Nat.{◌-◌}
use Rattle.osu_object.specs.Osu.{object_of}
use Rattle.osu_records.specs.Rows.{record_at}
use Rattle.osu_records.specs.Sight.{view_of}
use Rattle.eval_aim.proofs.Value.{aim_combine}
use Rattle.eval_aim.proofs.evaluate_both.Goals as goal

pub returns : goal.returns
returns c =
    let a = c.args in
    let v = view_of (object_of a.chart.now a.lay) (record_at a.t.now) a.j in (
      c.combine.ensures ∙ rw c.parts_place-parts.ensures (aim_combine v (a.j - 1) true),
      c.combine-2.ensures ∙ rw c.parts_without-plain.ensures (aim_combine v (a.j - 1) false),
    )
