-- `eval_flashlight::FlashlightEvaluator::evaluate_diff_of` meets its contract. Assumes nothing.
use mathlib.Core.Path.{◌∙◌}
use Rattle.osu_object.specs.Osu.{object_of}
use Rattle.osu_records.specs.Part.{part_at}
use Rattle.eval_flashlight.proofs.Repeats.{repeats_few}
use Rattle.eval_flashlight.proofs.Walk.{value_spinner, value_all}
use Rattle.eval_flashlight.proofs.FlashlightEvaluator.evaluate_diff_of.Goals as goal

pub returns-then-base : goal.returns-then-base
returns-then-base c = value_spinner c.args.self (object_of c.args.chart.now c.args.lay) (part_at c.args.t.now c.args.part) c.args.j c.args.hidden _ c.sight_at-curr.ensures c.if-base.true

pub value-requires : goal.value-requires
value-requires c = rw c.repeats_at-repeat_count.ensures (repeats_few _ _ _ c.requires.0 c.requires.1)

pub returns : goal.returns
returns c = c.value.ensures
    ∙ value_all c.args.self (object_of c.args.chart.now c.args.lay) (part_at c.args.t.now c.args.part) c.args.j c.args.hidden _ c.sight_at-curr.ensures _ _ _
    c.repeats_at-repeat_count.ensures c.if-base.false c.min.ensures c.walk-s.ensures
