-- `num_whole::toward_zero` meets its contract: `toward-mixed` of proofs/ByClass.antt. Assumes nothing.
use native.Mathlib.Nat.{mod-le}
use Rattle.std.proofs.Common.{arith}
use Rattle.num_whole.proofs.ByClass.{unit_pos, toward_mixed, toward_number}
use Rattle.num_whole.proofs.toward_zero.Goals as goal

pub nonzero_rem-result : goal.nonzero_rem-result
nonzero_rem-result c = unit_pos _ _ c.requires

pub overflow_sub-result : goal.overflow_sub-result
overflow_sub-result c = mod-le _ _

pub float_from_bits-result : goal.float_from_bits-result
float_from_bits-result c = toward_number c.args.b (omega arith) c.args.unit c.requires

pub returns : goal.returns
returns c = toward_mixed c.args.b (omega arith) c.args.unit c.requires
