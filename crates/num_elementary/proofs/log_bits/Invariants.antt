-- `num_elementary::log_bits` meets its contract. What is left of the steps, run from where the loop is, gives the same as all of them from the start. Assumes nothing.
use Rattle.std.proofs.Common.{◌≡◌, ◌-◌, ◌^◌, ◌<◌}
use Rattle.num_elementary.specs.Log.{log_bits}
use Rattle.num_elementary.proofs.log_bits.Given as goal

abbrev pub invariant-loop : goal.invariant-loop
invariant-loop l = (l.m < 2 ^ 63) × (l.bits < 2 ^ 40) × (log_bits (40 - l.counter) l.m l.bits ≡ log_bits 40 l.m-2 0)
