-- `num_angle::negate` meets its contract: no size is 2^63. Assumes nothing.
use Rattle.num_angle.specs.Angle.{negated}
use Rattle.num_angle.proofs.Whole.{abs_neg, minus_fits, minus_back}
use Rattle.num_angle.proofs.negate.Goals as goal

pub overflow_sub-result : goal.overflow_sub-result
overflow_sub-result c = minus_fits c.args.d.x c.requires.x

pub overflow_sub-result-2 : goal.overflow_sub-result-2
overflow_sub-result-2 c = minus_fits c.args.d.y c.requires.y

pub returns : goal.returns
unfolding negated
returns c =
    let d = c.args.d in
    let h = c.requires in
    let X = minus_back d.x h.x in
    let Y = minus_back d.y h.y in
    (λ i. record { x = X i; y = Y i }, record { x = rw (X, abs_neg) h.x; y = rw (Y, abs_neg) h.y })
