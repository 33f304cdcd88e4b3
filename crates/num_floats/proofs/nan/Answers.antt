-- `num_floats::nan` meets its contract. Assumes nothing.
use Rattle.std.proofs.Common.{refl}
use Rattle.std.specs.Float.Ieee.{of_bits}
use Rattle.num_floats.proofs.nan.Goals as goal

pub returns : goal.returns
unfolding of_bits
returns c = refl
