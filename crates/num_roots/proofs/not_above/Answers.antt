-- `num_roots::not_above` meets its contract: s is below 2^31, and so is the number below it. Assumes nothing.
use native.Mathlib.Omega.{arith}
use Rattle.num_roots.specs.Isqrt.{square_mono}
use Rattle.num_roots.proofs.not_above.Goals as goal

pub overflow_mul-s : goal.overflow_mul-s
overflow_mul-s c = record { fits = omega (arith, square_mono {a = c.args.s} {b = 0x7fff_ffff} (omega arith)) }
