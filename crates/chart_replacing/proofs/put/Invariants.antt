-- `chart_replacing::put` meets its contract. Assumes nothing.
use lib.ListN.{length}
use Rattle.chart_replacing.proofs.Copy.{Copied}
use Rattle.chart_replacing.proofs.put.Given as goal

abbrev pub invariant-loop-k : goal.invariant-loop-k
invariant-loop-k l = Copied l.initial.d l.at l.s (length l.s) l.d l.k
