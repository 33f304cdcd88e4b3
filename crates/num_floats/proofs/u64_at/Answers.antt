-- `num_floats::u64_at` meets its contract. Assumes nothing.
use Rattle.std.proofs.Common.{add_assoc, arith}
use Rattle.num_floats.specs.Fields.{u32_at, u64_at}
use Rattle.num_floats.proofs.u64_at.Goals as goal

pub returns : goal.returns
unfolding u64_at u32_at
returns c = simp add_assoc (omega (arith, c.from_le_bytes.ensures))
