-- `num_roots::digit_loop` meets its contract. The invariant: the i highest digits of the root are found, for the 2 * i highest digits of m, and `left` is the rest of m.
-- Assumes nothing.
use mathlib.Core.Path.{◌≡◌}
use Prim.Native.Nat.{◌+◌, ◌*◌, ◌^◌, ◌≤◌, ◌<◌}
use Rattle.num_roots.specs.Root.{square}
use Rattle.num_roots.proofs.digit_loop.Given as goal

abbrev pub invariant-loop-i : goal.invariant-loop-i
invariant-loop-i l = (l.i ≤ l.d) × ((square l.s.root + l.s.rest) * 2 ^ 64 + l.left ≡ l.m * 4 ^ l.i) × (l.s.rest ≤ 2 * l.s.root) × (l.s.root < 2 ^ l.i) × (l.left < 2 ^ 64)
