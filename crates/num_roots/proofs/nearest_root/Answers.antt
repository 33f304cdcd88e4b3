-- `num_roots::nearest_root` meets its contract: specs/Normal.antt has the arithmetic. Assumes nothing.
use native.Mathlib.Omega.{arith}
use Rattle.num_roots.proofs.Normal.{zeros_some, zeros_most, room, rounded_down, rounded_up}
use Rattle.num_roots.proofs.nearest_root.Goals as goal

pub overflow_cast-zeros : goal.overflow_cast-zeros
overflow_cast-zeros c = record { fits = omega (arith, zeros_most c.args.sig c.args.e c.args.d c.requires) }

pub overflow_sub-down : goal.overflow_sub-down
overflow_sub-down c = omega (arith, zeros_most c.args.sig c.args.e c.args.d c.requires, c.requires.low)

pub overflow_sub-m : goal.overflow_sub-m
overflow_sub-m c = omega (arith, zeros_some c.args.sig c.args.e c.args.d c.requires)

pub overflow_shl-m : goal.overflow_shl-m
overflow_shl-m c = omega (arith, zeros_most c.args.sig c.args.e c.args.d c.requires)

pub overflow_sub-exponent : goal.overflow_sub-exponent
overflow_sub-exponent c = room c.args.sig c.args.e c.args.d c.requires

pub returns-then-s : goal.returns-then-s
returns-then-s c =
    rounded_up c.args.sig c.args.e c.args.d c.requires c.root_digits-s.result.root c.root_digits-s.result.rest c.root_digits-s.ensures c.if-s.true

pub returns-else-s : goal.returns-else-s
returns-else-s c =
    rounded_down c.args.sig c.args.e c.args.d c.requires c.root_digits-s.result.root c.root_digits-s.result.rest c.root_digits-s.ensures c.if-s.false
