-- `num_elementary::power` meets its contract. Assumes nothing.
use Rattle.num_elementary.specs.Power.{power_of}
use Rattle.num_elementary.proofs.power.Goals as goal

pub returns-then-e : goal.returns-then-e
unfolding power_of
returns-then-e c = simp c.if-e.true

pub returns-then-e-2 : goal.returns-then-e-2
unfolding power_of
returns-then-e-2 c = simp (c.if-e.false, c.if-e-2.true)

pub returns-then-e-3 : goal.returns-then-e-3
unfolding power_of
returns-then-e-3 c = simp (c.root.ensures, c.if-e-3.true, c.if-e-2.false, c.if-e.false)

pub returns-else-e-3 : goal.returns-else-e-3
unfolding power_of
returns-else-e-3 c = simp (c.power_other.ensures, c.if-e-3.false, c.if-e-2.false, c.if-e.false)
