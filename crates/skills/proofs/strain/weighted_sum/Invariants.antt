-- `skills::strain::weighted_sum` meets its contract: the rest is still to be added. Assumes nothing.
use Rattle.std.proofs.Common.{◌≡◌, drop}
use Rattle.num_floats.specs.Numbers.{zero64, one64}
use Rattle.skills.specs.Value.{weighted}
use Rattle.skills.proofs.strain.weighted_sum.Given as goal

abbrev pub invariant-loop-x : goal.invariant-loop-x
invariant-loop-x l = weighted l.difficulty l.weight (drop l.x-index l.a) ≡ weighted zero64 one64 l.a
