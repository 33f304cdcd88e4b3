-- `num_roots::tested_root` meets its contract: a rest of no more than 2 * s is what the root leaves. Assumes nothing.
use native.Mathlib.Omega.{arith}
use Rattle.num_roots.specs.Isqrt.{square_mono}
use Rattle.num_roots.proofs.tested_root.Goals as goal

pub overflow_mul-square : goal.overflow_mul-square
overflow_mul-square c = record { fits = omega (arith, square_mono {a = c.args.s} {b = 0x7fff_ffff} (omega arith)) }
