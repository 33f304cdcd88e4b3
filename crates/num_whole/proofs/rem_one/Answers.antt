-- `num_whole::rem_one` meets its contract: the size less its whole part is the size's remainder, and the sign is put back. Assumes nothing.
use Rattle.std.proofs.Common.{arith}
use Rattle.num_whole.proofs.Sized.{Sized}
use Rattle.num_whole.proofs.Rest.{rem_clear, one_set, one_of}
use Rattle.num_whole.proofs.rem_one.Goals as goal
use Rattle.num_whole.proofs.rem_one.Goals.{After-of_bits-a}

sized : (c : After-of_bits-a) → Sized c.args.x c.bits-b.result c.of_bits-a.result
sized c = record { read = c.bits-b.ensures.fact_2; width = omega arith; size_is = c.of_bits-a.ensures }

pub returns-then-b-lt-SIGN : goal.returns-then-b-lt-SIGN
returns-then-b-lt-SIGN c =
    let z = sized c.before.before in
    let t = c.trunc in
    rem_clear z _ _ (one_of z t.result t.ensures) c.if-b-lt-SIGN.true

pub returns-else-b-lt-SIGN : goal.returns-else-b-lt-SIGN
returns-else-b-lt-SIGN c =
    let z = sized c.before.before in
    let t = c.trunc in
    one_set z _ (one_of z t.result t.ensures) c.if-b-lt-SIGN.false
