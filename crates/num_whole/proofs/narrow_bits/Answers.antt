-- `num_whole::narrow_bits` meets its contract: where both patterns are normal by `normal-fast` of specs/NarrowFast.antt, and elsewhere by the range of the exponent. Assumes nothing.
use Rattle.num_whole.proofs.NarrowFast.{normal_fast}
use Rattle.num_whole.proofs.narrow_bits.Goals as goal

pub returns-then-c-lt-OVERFLOW_BITS : goal.returns-then-c-lt-OVERFLOW_BITS
returns-then-c-lt-OVERFLOW_BITS c = normal_fast c.args.c c.if-c-ge-NORMAL_BITS.true c.if-c-lt-OVERFLOW_BITS.true
