-- `num_elementary::roots` meets its contract: antt works the forty roots out and compares. Assumes nothing.
use Rattle.std.proofs.Common.{refl}
use Rattle.num_elementary.specs.Two.{two_root}
use Rattle.num_elementary.specs.Roots.{two_roots}
use Rattle.num_elementary.proofs.roots.Goals as goal

pub returns : goal.returns
unfolding two_roots two_root
returns c = refl
