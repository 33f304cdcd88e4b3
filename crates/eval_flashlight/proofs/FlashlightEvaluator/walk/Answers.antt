-- `eval_flashlight::FlashlightEvaluator::walk` meets its contract: before turn k the state is that after k turns, and last the record k places back. Assumes nothing.
use Prim.Native.Nat.{ℕ}
use mathlib.Core.Path.{◌≡◌, ap, ◌∙◌}
use native.Mathlib.Omega.{arith}
use Rattle.osu_object.specs.Osu.{object_of}
use Rattle.osu_records.specs.Part.{part_at}
use Rattle.osu_records.specs.declared.Sight.{Sight}
use Rattle.eval_flashlight.specs.Flashlight.{turns_at_place}
use Rattle.eval_flashlight.proofs.Walk.{turn, last_first, turns_none}
use Rattle.eval_flashlight.proofs.FlashlightEvaluator.walk.Goals as goal

pub loop-k-init : goal.loop-k-init
loop-k-init c = (
  last_first c.args.self (object_of c.args.chart.now c.args.lay) (part_at c.args.t.now c.args.part) c.args.j c.args.hidden _ c.sight_at-curr.ensures,
  c.new-s.ensures ∙ turns_none _ _ _ _,
)

pub loop-k-preserved : goal.loop-k-preserved
loop-k-preserved c = (
  ap (λ (x : Sight). x.diff) c.sight_at-obj.ensures,
  turn c.args.self (object_of c.args.chart.now c.args.lay) (part_at c.args.t.now c.args.part) c.args.j c.args.hidden _ c.sight_at-curr.ensures c.loop-k.k _ _ _ _ _
      c.loop-k.invariant.0 c.sight_at-obj.ensures c.end_at-end.ensures c.loop-k.invariant.1 c.step-s.ensures,
)

pub returns : goal.returns
returns c =
    let e : c.loop-k.k ≡ c.args.n = omega arith in
    c.loop-k.invariant.1 ∙ ap (λ (k : ℕ). turns_at_place c.args.self (object_of c.args.chart.now c.args.lay) (part_at c.args.t.now c.args.part) c.args.j c.args.hidden k) e
