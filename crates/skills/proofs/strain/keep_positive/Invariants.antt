-- `skills::strain::keep_positive` meets its contract: k of the first i elements are kept. Assumes nothing.
use Rattle.skills.proofs.Keeping.{Keeping}
use Rattle.skills.proofs.strain.keep_positive.Given as goal

abbrev pub invariant-loop-i : goal.invariant-loop-i
invariant-loop-i l = Keeping l.initial.a l.a l.k l.i
