-- `num_whole::f64_to_f32` meets its contract: proofs/NarrowRanges.antt has a law for each class of x. Assumes nothing.
use Rattle.num_whole.proofs.NarrowRanges.{narrow_zero, narrow_finite, narrow_infinite, narrow_nan}
use Rattle.std.proofs.Common.{◌∙◌, arith}
use Rattle.num_whole.proofs.f64_to_f32.Goals as goal

pub returns-then-c-eq0 : goal.returns-then-c-eq0
returns-then-c-eq0 c =
    c.of_bits.ensures ∙ narrow_zero c.args.x c.bits-b.result c.bits-b.ensures.fact_2 (omega arith) c.if-c-eq0.true

pub returns-then-c-lt-INFINITY_BITS : goal.returns-then-c-lt-INFINITY_BITS
returns-then-c-lt-INFINITY_BITS c =
    c.of_bits-then-c-lt-INFINITY_BITS.ensures ∙ narrow_finite c.args.x c.bits-b.result c.bits-b.ensures.fact_2 (omega arith) c.narrow_bits.result c.narrow_bits.ensures

pub returns-then-c-eq-INFINITY_BITS : goal.returns-then-c-eq-INFINITY_BITS
returns-then-c-eq-INFINITY_BITS c =
    c.of_bits-then-c-eq-INFINITY_BITS.ensures ∙ narrow_infinite c.args.x c.bits-b.result c.bits-b.ensures.fact_2 (omega arith) c.if-c-eq-INFINITY_BITS.true

pub returns-else-c-eq-INFINITY_BITS : goal.returns-else-c-eq-INFINITY_BITS
returns-else-c-eq-INFINITY_BITS c =
    c.nan.ensures ∙ narrow_nan c.args.x c.bits-b.result c.bits-b.ensures.fact_2 (omega arith) (omega arith)
