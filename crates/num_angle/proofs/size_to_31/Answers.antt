-- `num_angle::size_to_31` meets its contract: one shift to the left, one to the right, or all digits shifted out. Assumes nothing.
use Rattle.num_angle.proofs.Scaling.{shifted_left, shifted_right, shifted_out}
use Rattle.num_angle.proofs.size_to_31.Goals as goal

pub returns-then-n-le31 : goal.returns-then-n-le31
returns-then-n-le31 c = shifted_left c.args.m c.args.n c.requires c.if-n-le31.true

pub returns-then-n-lt95 : goal.returns-then-n-lt95
returns-then-n-lt95 c = shifted_right c.args.m c.args.n c.requires c.if-n-le31.false

pub returns-else-n-lt95 : goal.returns-else-n-lt95
returns-else-n-lt95 c = shifted_out c.args.m c.args.n c.requires c.ranges.m.fits c.if-n-lt95.false
