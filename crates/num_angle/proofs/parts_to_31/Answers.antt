-- `num_angle::parts_to_31` meets its contract: a factor of 2^s takes s digits off the scaling. Assumes nothing.
use native.Mathlib.Omega.{arith}
use Rattle.num_angle.proofs.Sizes.{shift_under, under_shift}
use Rattle.num_angle.proofs.Scaling.{parts_zero, parts_some}
use Rattle.num_angle.proofs.parts_to_31.Goals as goal

pub overflow_sub-n : goal.overflow_sub-n
overflow_sub-n c = let p = c.args.p in shift_under p.digits p.exponent c.args.n (omega (arith, c.if-p-eq0.false)) c.requires

pub size_to_31-requires : goal.size_to_31-requires
size_to_31-requires c =
    let p = c.args.p in
    under_shift p.digits p.exponent c.args.n (shift_under p.digits p.exponent c.args.n (omega (arith, c.if-p-eq0.false)) c.requires) c.requires

pub returns-then-p-eq0 : goal.returns-then-p-eq0
returns-then-p-eq0 c = let p = c.args.p in parts_zero p.digits p.exponent c.args.n c.if-p-eq0.true

pub returns-else-p-eq0 : goal.returns-else-p-eq0
returns-else-p-eq0 c =
    let p = c.args.p in
    parts_some p.digits p.exponent c.args.n c.size_to_31.result (shift_under p.digits p.exponent c.args.n (omega (arith, c.if-p-eq0.false)) c.requires) c.size_to_31.ensures
