-- `osu_difficulty_object::cursor::run` meets its contract. Assumes nothing.
use Prim.Native.Nat.{◌-◌}
use native.Mathlib.Omega.{arith}
use mathlib.Core.Path.{◌≡◌, refl, sym, ◌∙◌}
use Rattle.osu_object.proofs.Lists.{length_list}
use Rattle.osu_difficulty_object.proofs.Walk.{run_turn, run_none}
use Rattle.osu_difficulty_object.proofs.cursor.run.Goals as goal

pub loop-k-init : goal.loop-k-init
loop-k-init c = let z : c.args.slider.now.runs.nested_count - 0 ≡ c.args.slider.now.runs.nested_count = omega arith in rw z refl

pub loop-k-preserved : goal.loop-k-preserved
loop-k-preserved c =
    run_turn _ _ _ _ _ (length_list _ _ _) _ _ _ _ _ c.loop-k-test.true c.order.ensures.0 c.nested-e.ensures c.step-s.ensures
    ∙ c.loop-k.invariant

pub returns : goal.returns
returns c =
    let z : c.args.slider.now.runs.nested_count - c.loop-k.k ≡ 0 = omega arith in
    sym (run_none _ _ _ _ _ _ z) ∙ c.loop-k.invariant
