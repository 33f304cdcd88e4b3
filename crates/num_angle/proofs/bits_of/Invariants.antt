-- `num_angle::bits_of` meets its contract: each turn gives the next bit, and the bits so far stay below 2^28. Assumes nothing.
use Rattle.num_angle.proofs.Doubling.{Turning}
use Rattle.num_angle.proofs.bits_of.Given as goal

abbrev pub invariant-loop-n : goal.invariant-loop-n
invariant-loop-n l = Turning l.initial.d l.d l.bits l.n
