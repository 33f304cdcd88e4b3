-- `num_whole::rem_two` meets its contract: the remainder of the size, with the sign put back. Assumes nothing.
use Rattle.std.proofs.Common.{arith}
use Rattle.num_whole.proofs.Sized.{Sized, is_clear}
use Rattle.num_whole.proofs.Rest.{rem_clear, two_set}
use Rattle.num_whole.proofs.rem_two.Goals as goal
use Rattle.num_whole.proofs.rem_two.Goals.{After-of_bits-a}

sized : (c : After-of_bits-a) → Sized c.args.x c.bits-b.result c.of_bits-a.result
sized c = record { read = c.bits-b.ensures.fact_2; width = omega arith; size_is = c.of_bits-a.ensures }

pub below_two-r-requires : goal.below_two-r-requires
below_two-r-requires c = is_clear (sized c)

pub returns-then-b-lt-SIGN : goal.returns-then-b-lt-SIGN
returns-then-b-lt-SIGN c = rem_clear (sized c.before.before) _ _ c.below_two-r.ensures c.if-b-lt-SIGN.true

pub returns-else-b-lt-SIGN : goal.returns-else-b-lt-SIGN
returns-else-b-lt-SIGN c = two_set (sized c.before.before) _ c.below_two-r.ensures c.if-b-lt-SIGN.false
