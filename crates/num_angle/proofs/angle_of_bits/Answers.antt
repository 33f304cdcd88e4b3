-- `num_angle::angle_of_bits` meets its contract: fewer than 2^53 bits are an f64. Assumes nothing.
use native.Mathlib.Omega.{arith}
use Prim.Native.Nat.{◌^◌}
use mathlib.Core.Path.{refl}
use lib.Dec.{le→leb}
use lib.Ieee.{in_float}
use Rattle.num_angle.specs.Float.{of_bits28}
use Rattle.num_angle.proofs.angle_of_bits.Goals as goal

pub int_to_float-result : goal.int_to_float-result
unfolding in_float
int_to_float-result c = le→leb c.args.bits (2 ^ 53) (omega arith)

pub returns : goal.returns
unfolding of_bits28
returns c = refl
