-- `num_two_table::next_root` meets its contract: with so many bits left, the root lies from r to below r + 2 ^ left. Assumes nothing.
use Prim.Native.Nat.{◌+◌, ◌*◌, ◌^◌, ◌≤◌, ◌<◌}
use Rattle.num_roots.specs.Root.{square}
use Rattle.num_two_table.proofs.next_root.Given as goal

abbrev pub invariant-loop-left : goal.invariant-loop-left
invariant-loop-left l = (l.left ≤ 63) × (l.r + 2 ^ l.left ≤ 2 ^ 63) × (square l.r ≤ l.t * 2 ^ 62) × (l.t * 2 ^ 62 < square (l.r + 2 ^ l.left))
