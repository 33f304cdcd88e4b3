-- `eval_values::fill_values` meets its contract: the rows before j are made anew, and nothing else is. Assumes nothing.
use mathlib.Core.Path.{◌≡◌}
use Prim.Native.Nat.{◌-◌, ◌≤◌, max}
use Rattle.num_tables.specs.Parts.{fill}
use Rattle.eval_values.specs.Values.{values_in}
use Rattle.eval_values.proofs.fill_values.Given as goal

abbrev pub invariant-loop-j : goal.invariant-loop-j
invariant-loop-j l = (l.values ≡ fill 5 (values_in l.set l.chart l.lay l.t) l.lo (l.j - l.lo) l.initial.values) × (l.j ≤ max l.lo l.hi)
