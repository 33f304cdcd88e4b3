-- `eval_aim::evaluate_place` meets its contract. Assumes nothing.
use Prim.Native.Nat.{◌-◌}
use mathlib.Core.Path.{◌∙◌}
use Rattle.osu_object.specs.Osu.{object_of}
use Rattle.osu_records.specs.Rows.{record_at}
use Rattle.osu_records.specs.Sight.{view_of}
use Rattle.eval_aim.proofs.Value.{aim_combine}
use Rattle.eval_aim.proofs.evaluate_place.Goals as goal

pub returns : goal.returns
returns c = c.combine.ensures ∙ rw c.parts_place.ensures (aim_combine (view_of (object_of c.args.chart.now c.args.lay) (record_at c.args.t.now) c.args.j) (c.args.j - 1) _)
