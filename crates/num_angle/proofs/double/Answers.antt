-- `num_angle::double` meets its contract: no product of numbers below 2^31 overflows. Assumes nothing.
use mathlib.Core.Path.{refl}
use lib.IntN.{pos, ◌*ℤ◌, ◌-ℤ◌}
use Rattle.num_angle.specs.Angle.{doubled}
use Rattle.num_angle.proofs.Whole.{sfits, back, under_63, square_small, squares_small, twice_small, product_small}
use Rattle.num_angle.proofs.double.Goals as goal

pub overflow_mul-result : goal.overflow_mul-result
overflow_mul-result c =
    let d = c.args.d in
    let h = c.requires.x in
    rw (back d.x (under_63 h)) (sfits (d.x *ℤ d.x) (square_small d.x h))

pub overflow_mul-result-2 : goal.overflow_mul-result-2
overflow_mul-result-2 c =
    let d = c.args.d in
    let h = c.requires.y in
    rw (back d.y (under_63 h)) (sfits (d.y *ℤ d.y) (square_small d.y h))

pub overflow_sub-result : goal.overflow_sub-result
overflow_sub-result c =
    let d = c.args.d in
    let h = c.requires.x in
    let k = c.requires.y in
    rw (back d.x (under_63 h), back d.y (under_63 k), back (d.x *ℤ d.x) (square_small d.x h), back (d.y *ℤ d.y) (square_small d.y k))
    (sfits (d.x *ℤ d.x -ℤ d.y *ℤ d.y) (squares_small d.x d.y h k))

pub overflow_mul-result-3 : goal.overflow_mul-result-3
overflow_mul-result-3 c =
    let d = c.args.d in
    let h = c.requires.x in
    rw (back d.x (under_63 h)) (sfits (pos 2 *ℤ d.x) (twice_small d.x h))

pub overflow_mul-result-4 : goal.overflow_mul-result-4
overflow_mul-result-4 c =
    let d = c.args.d in
    let h = c.requires.x in
    let k = c.requires.y in
    rw (back d.x (under_63 h), back d.y (under_63 k), back (pos 2 *ℤ d.x) (twice_small d.x h)) (sfits (pos 2 *ℤ d.x *ℤ d.y) (product_small d.x d.y h k))

pub returns : goal.returns
unfolding doubled
returns c =
    let d = c.args.d in
    let h = c.requires.x in
    let k = c.requires.y in
    rw (back d.x (under_63 h), back d.y (under_63 k), back (d.x *ℤ d.x) (square_small d.x h), back (d.y *ℤ d.y) (square_small d.y k), back (pos 2 *ℤ d.x) (twice_small d.x h), back (d.x *ℤ d.x -ℤ d.y *ℤ d.y) (squares_small d.x d.y h k), back (pos 2 *ℤ d.x *ℤ d.y) (product_small d.x d.y h k))
    (refl, record { x = squares_small d.x d.y h k; y = product_small d.x d.y h k })
