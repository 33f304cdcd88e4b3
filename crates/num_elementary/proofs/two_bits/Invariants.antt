-- `num_elementary::two_bits` meets its contract. What the bits that are left make of P is what all of them make of it from the start. Assumes nothing.
use Rattle.std.proofs.Common.{◌≡◌, ◌-◌, ◌*◌, ◌^◌, ◌<◌, ◌≤◌}
use lib.Ieee.{size}
use Rattle.num_elementary.specs.Two.{two_root, two_bits}
use Rattle.num_elementary.proofs.two_bits.Given as goal

abbrev pub invariant-loop-rest : goal.invariant-loop-rest
invariant-loop-rest l = (l.rest < 2 ^ 40) × (2 ^ 62 ≤ l.p) × (l.p * two_root (40 - size l.rest) ≤ 2 ^ 125) × (two_bits 40 l.rest l.p ≡ two_bits 40 l.f (2 ^ 62))

abbrev pub decreases-loop-rest : goal.decreases-loop-rest
decreases-loop-rest l = l.rest
