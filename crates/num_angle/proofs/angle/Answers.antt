-- `num_angle::angle` meets its contract. Assumes nothing.
use mathlib.Core.Path.{◌≡◌, sym, ◌∙◌, ap}
use mathlib.Core.Bool.{true}
use lib.Ieee.Scale.{finite}
use Rattle.num_angle.specs.Float.{of_bits28}
use Rattle.num_angle.proofs.Whole.{under_63, zero_bits, positive_bits}
use Rattle.num_angle.proofs.Answer.{dot_not_finite, det_not_finite, straight_answer, turned_answer}
use Rattle.num_angle.proofs.angle.Goals as goal
use Rattle.num_angle.proofs.angle.Goals.{Else-not-is_finite-2}

-- both are finite
dot_finite : (c : Else-not-is_finite-2) → finite c.args.dot ≡ true
dot_finite c = sym c.is_finite.ensures ∙ c.if-not-is_finite.false

det_finite : (c : Else-not-is_finite-2) → finite c.args.det ≡ true
det_finite c = sym c.is_finite-2.ensures ∙ c.if-not-is_finite-2.false

pub returns-then-not-is_finite : goal.returns-then-not-is_finite
returns-then-not-is_finite c =
    let f = c.is_finite in
    c.nan.ensures ∙ dot_not_finite c.args.dot c.args.det (sym f.ensures ∙ c.if-not-is_finite.true)

pub returns-then-not-is_finite-2 : goal.returns-then-not-is_finite-2
returns-then-not-is_finite-2 c =
    let f = c.is_finite-2 in
    c.nan-then-not-is_finite-2.ensures ∙ det_not_finite c.args.dot c.args.det (sym f.ensures ∙ c.if-not-is_finite-2.true)

pub direction-d-requires : goal.direction-d-requires
direction-d-requires c = (dot_finite c, det_finite c)

pub returns-then-d-eq0 : goal.returns-then-d-eq0
returns-then-d-eq0 c =
    let d = c.direction-d in
    let z = zero_bits d.result.y (under_63 d.ensures.1.sized.y) c.if-d-eq0.true in
    c.straight_angle.ensures ∙ straight_answer c.args.dot c.args.det (dot_finite c.before.before.before.before.before) (det_finite c.before.before.before.before.before) d.result d.ensures.0 z

pub bits_of-requires : goal.bits_of-requires
bits_of-requires c = c.direction-d.ensures.1

pub angle_of_bits-requires : goal.angle_of_bits-requires
angle_of_bits-requires c = c.bits_of.ensures.1

pub returns : goal.returns
returns c =
    let d = c.direction-d in
    let a = positive_bits d.result.y d.ensures.1.up c.if-d-eq0.false in
    c.angle_of_bits.ensures
    ∙ ap of_bits28 c.bits_of.ensures.0
    ∙ turned_answer c.args.dot c.args.det (dot_finite c.before.before.before.before.before.before) (det_finite c.before.before.before.before.before.before) d.result d.ensures.0 a
