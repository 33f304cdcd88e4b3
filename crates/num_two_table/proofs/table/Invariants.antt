-- `num_two_table::table` meets its contract: before the entry at index i the entries are T(1) to T(i), and t is T(i). Assumes nothing.
use mathlib.Core.Path.{◌≡◌}
use lib.ListN.{length, take}
use Rattle.num_elementary.specs.Two.{two_root}
use Rattle.num_elementary.specs.Roots.{two_roots}
use Rattle.num_two_table.proofs.table.Given as goal

abbrev pub invariant-loop-root : goal.invariant-loop-root
invariant-loop-root l = (length l.root-items ≡ 40) × (l.t ≡ two_root l.root-index) × (take l.root-index l.root-items ≡ two_roots l.root-index)
