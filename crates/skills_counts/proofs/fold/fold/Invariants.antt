-- `skills_counts::fold::fold` meets its contract: what it holds before place j is joined of the places before. Assumes nothing.
use Rattle.skills_counts.proofs.Folding.{Folding}
use Rattle.skills_counts.proofs.fold.fold.Given as goal

abbrev pub invariant-loop-j : goal.invariant-loop-j
invariant-loop-j g l = Folding l.chart l.lay l.clock l.values l.skill l.of (λ to x r. goal.F-post g l.join to x r) l.from l.lay.n l.to l.place l.j
