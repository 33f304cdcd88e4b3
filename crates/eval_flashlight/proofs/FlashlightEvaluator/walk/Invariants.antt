-- `eval_flashlight::FlashlightEvaluator::walk` meets its contract: before turn k the state is that after k turns, and last the record k places back. Assumes nothing.
use mathlib.Core.Path.{◌≡◌}
use Rattle.osu_object.specs.Osu.{object_of}
use Rattle.osu_records.specs.Part.{part_at}
use Rattle.osu_records.specs.Sight.{view_of}
use Rattle.eval_flashlight.specs.Flashlight.{turns_at_place}
use Rattle.eval_flashlight.proofs.FlashlightEvaluator.walk.Given as goal

abbrev pub invariant-loop-k : goal.invariant-loop-k
invariant-loop-k l = (l.last ≡ (view_of (object_of l.chart l.lay) (part_at l.t l.part) l.j l.k).diff) × (l.s ≡ turns_at_place l.self (object_of l.chart l.lay) (part_at l.t l.part) l.j l.hidden l.k)
