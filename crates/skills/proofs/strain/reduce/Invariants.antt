-- `skills::strain::reduce` meets its contract: the first i elements are reduced. Assumes nothing.
use Rattle.skills.proofs.Reducing.{Reducing}
use Rattle.skills.proofs.strain.reduce.Given as goal

abbrev pub invariant-loop-i : goal.invariant-loop-i
invariant-loop-i l = Reducing l.initial.a l.count l.a l.i
