-- `num_elementary::power_of_zero` meets its contract. Assumes nothing.
use lib.Ieee.{nan_bits}
use Rattle.num_elementary.proofs.power_of_zero.Goals as goal

pub float_from_bits-result : goal.float_from_bits-result
unfolding nan_bits
float_from_bits-result c = tt

pub returns-then-e : goal.returns-then-e
returns-then-e c = simp c.if-e.true

pub returns-then-e-2 : goal.returns-then-e-2
returns-then-e-2 c = simp (c.if-e.false, c.if-e-2.true)

pub returns-else-e-2 : goal.returns-else-e-2
returns-else-e-2 c = simp (c.if-e.false, c.if-e-2.false)
