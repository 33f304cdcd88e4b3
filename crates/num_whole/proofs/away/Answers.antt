-- `num_whole::away` meets its contract: `away-mixed` of proofs/ByClass.antt. Assumes nothing.
use native.Mathlib.Nat.{mod-le}
use Rattle.std.proofs.Common.{arith}
use Rattle.num_whole.proofs.ByClass.{unit_pos, unit_most, away_mixed, away_number}
use Rattle.num_whole.proofs.away.Goals as goal

pub overflow_sub-up : goal.overflow_sub-up
overflow_sub-up c = omega (arith, unit_pos _ _ c.requires)

pub overflow_add-up : goal.overflow_add-up
overflow_add-up c = record { fits = omega (arith, unit_most _ _ c.requires, c.requires.1) }

pub nonzero_rem-result : goal.nonzero_rem-result
nonzero_rem-result c = unit_pos _ _ c.requires

pub overflow_sub-result : goal.overflow_sub-result
overflow_sub-result c = mod-le _ _

pub float_from_bits-result : goal.float_from_bits-result
float_from_bits-result c = away_number c.args.b (omega arith) c.args.unit c.requires

pub returns : goal.returns
returns c = away_mixed c.args.b (omega arith) c.args.unit c.requires
