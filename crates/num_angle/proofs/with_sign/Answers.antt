-- `num_angle::with_sign` meets its contract: what is cast is below 2^31. Assumes nothing.
use mathlib.Core.Path.{refl}
use lib.IntN.{pos, neg_ℤ, +ℤ_idl}
use mir.Facts.{to_z_pos}
use mir.Syntax.{w64}
use Rattle.num_angle.proofs.Whole.{sfits, back, abs_neg, under_63}
use Rattle.num_angle.proofs.with_sign.Goals as goal

pub overflow_sub-result : goal.overflow_sub-result
overflow_sub-result c =
    let a = c.args.a in
    let h = under_63 c.requires in
    rw (to_z_pos w64 h, +ℤ_idl (neg_ℤ (pos a))) (sfits (neg_ℤ (pos a)) (rw abs_neg h))

pub returns-then-neg : goal.returns-then-neg
returns-then-neg c =
    let a = c.args.a in
    let h = under_63 c.requires in
    rw (to_z_pos w64 h, +ℤ_idl (neg_ℤ (pos a)), back (neg_ℤ (pos a)) (rw abs_neg h), c.if-neg.true) refl

pub returns-else-neg : goal.returns-else-neg
returns-else-neg c = rw (to_z_pos w64 (under_63 c.requires), c.if-neg.false) refl
