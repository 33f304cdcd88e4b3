-- `chart_opening::has_fault` meets its contract: `Walked` of proofs/Faults.antt holds at each place. Assumes nothing.
use Rattle.chart_opening.proofs.Faults.{Walked}
use Rattle.chart_opening.proofs.has_fault.Given as goal

abbrev pub invariant-loop-i : goal.invariant-loop-i
invariant-loop-i l = Walked l.chart l.lay l.lay.n l.i l.last
