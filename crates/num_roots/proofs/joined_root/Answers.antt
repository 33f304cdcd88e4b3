-- `num_roots::joined_root` meets its contract: what `up` and the square of q leave is the rest of s, or, by `before` of specs/Halves.antt, of s - 1. Assumes nothing.
use native.Mathlib.Omega.{arith}
use Prim.Native.Nat.{◌+◌, ◌*◌, ◌^◌}
use borrow.Author.Rules.{rules}
use Rattle.num_roots.proofs.Halves.{before}
use Rattle.num_roots.specs.Isqrt.{square_mono}
use Rattle.num_roots.proofs.joined_root.Goals as goal

pub overflow_mul-square : goal.overflow_mul-square
overflow_mul-square c = record { fits = omega (arith, square_mono {a = c.args.q} {b = 0x7fff_ffff} (omega arith)) }

pub returns-then-square-more : goal.returns-then-square-more
returns-then-square-more c =
    let a = c.args in
    record {
      sum = before (a.m * 2 ^ 42) (a.h * 2 ^ 26 + a.q) a.up (a.q * a.q) (search rules) (search rules) (search rules);
      most = search rules;
    }
