-- `skills::strain::weighted_sum` meets its contract: the rest is still to be added. Assumes nothing.
use Rattle.std.proofs.Common.{sym, ◌∙◌, arith}
use Rattle.skills.proofs.Sums.{weigh_next, weigh_done}
use Rattle.skills.proofs.strain.weighted_sum.Goals as goal

pub loop-x-preserved : goal.loop-x-preserved
loop-x-preserved c = let l = c.loop-x in weigh_next c.args.a.now l.x-index l.difficulty l.weight (omega arith) ∙ l.invariant

pub returns : goal.returns
returns c = let l = c.loop-x in sym (weigh_done c.args.a.now l.x-index l.difficulty l.weight (omega arith)) ∙ l.invariant
