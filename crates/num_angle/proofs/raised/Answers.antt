-- `num_angle::raised` meets its contract. Assumes nothing.
use Rattle.num_angle.proofs.raised.Goals as goal

pub returns-then-low : goal.returns-then-low
returns-then-low c = rw c.if-low.true c.negate.ensures
