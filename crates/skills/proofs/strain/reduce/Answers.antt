-- `skills::strain::reduce` meets its contract: the first i elements are reduced. Assumes nothing.
use Rattle.std.proofs.Common.{arith, refl}
use Rattle.skills.proofs.Reducing.{reduce_next, reduce_end}
use Rattle.skills.proofs.strain.reduce.Goals as goal

pub loop-i-init : goal.loop-i-init
loop-i-init c = record { kept = refl; lists = refl }

pub loop-i-preserved : goal.loop-i-preserved
loop-i-preserved c = reduce_next c.loop-i.invariant (omega arith) (omega arith) c.reduction.result c.reduction.ensures

pub returns : goal.returns
returns c = reduce_end c.loop-i.invariant (omega arith)
