-- `num_angle::sign_bit` meets its contract: the sign is the pattern's highest bit. Assumes nothing.
use native.Mathlib.Omega.{arith}
use Rattle.num_angle.proofs.Reading.{sign_reads}
use Rattle.num_angle.proofs.sign_bit.Goals as goal

pub returns : goal.returns
returns c =
    let b = c.bits in
    sign_reads c.args.x b.result b.ensures.fact_1 b.ensures.fact_2 (omega arith)
