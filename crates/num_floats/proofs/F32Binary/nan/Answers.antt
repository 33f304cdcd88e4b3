-- `num_floats::Binary::nan` meets its contract at f32. Assumes nothing.
use Rattle.std.proofs.Common.{refl}
use Rattle.std.specs.Float.Ieee.{of_bits}
use Rattle.num_floats.proofs.F32Binary.nan.Goals as goal

pub returns : goal.returns
unfolding of_bits
returns c = refl
