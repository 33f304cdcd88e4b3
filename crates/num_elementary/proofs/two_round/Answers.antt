-- `num_elementary::two_round` meets its contract. Assumes nothing.
use Rattle.std.proofs.Common.{lit<}
use Rattle.num_whole.proofs.Dropped.{dropped_closest}
use Rattle.num_elementary.specs.Two.{two_round}
use Rattle.num_elementary.proofs.two_round.Goals as goal

pub returns : goal.returns
unfolding two_round
returns c = dropped_closest c.args.p 512 (lit< tt)
