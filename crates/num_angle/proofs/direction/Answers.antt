-- `num_angle::direction` meets its contract: both sizes are below 2^n, and dot's sign is put back. Assumes nothing.
use Prim.Native.Nat.{max}
use mathlib.Core.Path.{◌≡◌, ap, ap₂, ◌∙◌}
use lib.Ieee.{size}
use mir.Facts.{to_z_pos}
use mir.Syntax.{w64}
use Rattle.num_angle.specs.Float.{units_of, sign_bit, direction_of}
use Rattle.num_angle.proofs.Whole.{back, under_63, signed, abs_signed}
use Rattle.num_angle.proofs.Sizes.{size_max, first_under, second_under}
use Rattle.num_angle.proofs.Scaling.{directed}
use Rattle.num_angle.proofs.direction.Goals as goal
use Rattle.num_angle.proofs.direction.Goals.{After-max-n}

-- the digits of the larger size
count : (c : After-max-n) → c.max-n.result ≡ size (max (units_of c.args.dot) (units_of c.args.det))
count c =
    let u = units_of c.args.dot in
    let v = units_of c.args.det in
    c.max-n.ensures ∙ ap₂ max (c.width.ensures.0 ∙ ap size c.parts_of-p.ensures.0) (c.width-2.ensures.0 ∙ ap size c.parts_of-q.ensures.0) ∙ size_max u v

pub parts_of-p-requires : goal.parts_of-p-requires
parts_of-p-requires c = c.requires.0

pub parts_of-q-requires : goal.parts_of-q-requires
parts_of-q-requires c = c.requires.1

pub parts_to_31-requires : goal.parts_to_31-requires
parts_to_31-requires c = rw c.parts_of-p.ensures.0 (first_under _ _ _ (count c.before))

pub parts_to_31-requires-2 : goal.parts_to_31-requires-2
parts_to_31-requires-2 c = rw c.parts_of-q.ensures.0 (second_under _ _ _ (count c.before.before.before))

pub returns : goal.returns
unfolding direction_of
returns c =
    let neg = sign_bit c.args.dot in
    let s = c.parts_to_31 in
    let t = c.parts_to_31-2 in
    let e : c.with_sign.result ≡ signed neg s.result = rw c.sign_bit.ensures at c.with_sign.ensures in
    rw (e, back (signed neg s.result) (rw (abs_signed neg s.result) (under_63 s.ensures.1)), to_z_pos w64 (under_63 t.ensures.1))
    (directed neg _ _ c.max-n.result s.result t.result (count c.before.before.before.before) (rw c.parts_of-p.ensures.0 at s.ensures) (rw c.parts_of-q.ensures.0 at t.ensures))
