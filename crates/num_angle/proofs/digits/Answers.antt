-- `num_angle::digits` meets its contract: the digits are what the leading zeros leave of 64. Assumes nothing.
use native.Mathlib.Omega.{arith}
use lib.Count.{leading_le}
use Rattle.num_angle.proofs.Sizes.{size_leading}
use Rattle.num_angle.proofs.digits.Goals as goal

pub overflow_sub-result : goal.overflow_sub-result
overflow_sub-result c = leading_le 64 c.args.m

pub returns : goal.returns
returns c = (size_leading c.args.m c.ranges.m.fits, omega arith)
