-- `test_limits::chart` meets its contract: the length by the law, since computing it would walk the list. Assumes nothing.
use Prim.Native.Nat.{ℕ}
use mathlib.Core.Path.{sym}
use lib.ListN.{length-replicate}
use Rattle.test_limits.proofs.chart.Goals as goal

pub returns : goal.returns
returns c = sym (length-replicate {A = ℕ} 917640 0)
