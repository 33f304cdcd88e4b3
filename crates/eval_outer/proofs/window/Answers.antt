-- `eval_outer::window` meets its contract: it is filled from its end. Assumes nothing.
use mathlib.Core.Path.{ap, ◌∙◌}
use native.Mathlib.Omega.{arith}
use lib.ListN.{replicate}
use Rattle.osu_difficulty_object.specs.declared.OsuDifficultyObject.{OsuDifficultyObject as Record}
use Rattle.eval_outer.specs.Records.{record_at}
use Rattle.eval_outer.proofs.Slots.{filled_none, filled_more, filled_all}
use Rattle.eval_outer.proofs.window.Goals as goal

pub loop-k-init : goal.loop-k-init
loop-k-init c = filled_none _ _ _ (ap (λ (r : Record). replicate 34 r) c.nth-w.ensures)

pub loop-k-preserved : goal.loop-k-preserved
loop-k-preserved c =
    filled_more _ _ _ _ _ c.loop-k-test.true
    (c.nth.ensures ∙ ap (record_at c.args.rs.now) (let e = c.saturating_sub-first.ensures in omega arith)) c.loop-k.invariant

pub returns : goal.returns
returns c = filled_all _ _ _ _ c.loop-k-test.false c.loop-k.invariant
