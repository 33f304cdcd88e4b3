-- `eval_aim::evaluate_diff_of` meets its contract. Assumes nothing.
use Rattle.eval_aim.proofs.Value.{aim_combine}
use Prim.Native.Nat.{◌-◌}
use Rattle.osu_object.specs.Osu.{object_of}
use Rattle.osu_records.specs.Part.{part_at}
use Rattle.osu_records.specs.Sight.{view_of}
use mathlib.Core.Path.{◌∙◌}
use Rattle.eval_aim.proofs.evaluate_diff_of.Goals as goal

pub returns : goal.returns
returns c = c.combine.ensures ∙ rw c.parts_of.ensures (aim_combine (view_of (object_of c.args.chart.now c.args.lay) (part_at c.args.t.now c.args.part) c.args.j) (c.args.j - 1) _)
