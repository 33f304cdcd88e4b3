-- `num_angle::bits_of` meets its contract: each turn gives the next bit, and the bits so far stay below 2^28. Assumes nothing.
use native.Mathlib.Omega.{arith}
use Rattle.num_angle.proofs.Doubling.{turn_first, turn_next, turn_done, turn_room}
use Rattle.num_angle.proofs.bits_of.Goals as goal

pub loop-n-init : goal.loop-n-init
loop-n-init c = turn_first c.args.from c.requires

pub next_bit-t-requires : goal.next_bit-t-requires
next_bit-t-requires c = c.loop-n.invariant.upper

pub overflow_mul-bits : goal.overflow_mul-bits
overflow_mul-bits c = let h = turn_room c.loop-n.invariant in record { fits = omega arith }

pub overflow_add-bits : goal.overflow_add-bits
overflow_add-bits c =
    let h = turn_room c.loop-n.invariant in
    let l = c.next_bit-t.ensures.2 in
    record { fits = omega arith }

pub loop-n-preserved : goal.loop-n-preserved
loop-n-preserved c =
    let t = c.next_bit-t in
    turn_next c.loop-n.invariant (omega arith) t.result t.ensures.0 t.ensures.1 t.ensures.2

pub returns : goal.returns
returns c = (turn_done c.loop-n.invariant (omega arith), turn_room c.loop-n.invariant)
