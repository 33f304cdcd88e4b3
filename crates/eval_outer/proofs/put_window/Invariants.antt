-- `eval_outer::put_window` meets its contract: the rows before k are the window's. Assumes nothing.
use mathlib.Core.Path.{◌≡◌}
use Prim.Native.Nat.{◌-◌}
use Rattle.num_tables.specs.Parts.{fill}
use Rattle.osu_records.specs.Rows.{row_of}
use Rattle.eval_outer.specs.Records.{slot_at}
use Rattle.eval_outer.proofs.put_window.Given as goal

abbrev pub invariant-loop-k : goal.invariant-loop-k
invariant-loop-k l = l.t ≡ fill 16 (λ i. row_of (slot_at l.w i)) 0 (l.k - 0) l.initial.t
