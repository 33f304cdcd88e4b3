-- `skills::walk` meets its contract: what it holds before place j is what the definitions have at place j - 1. Assumes nothing.
use Rattle.skills.proofs.Places.{Walked}
use Rattle.skills.proofs.walk.Given as goal

abbrev pub invariant-loop-j : goal.invariant-loop-j
invariant-loop-j l = Walked l.chart l.lay l.clock l.values l.skill l.initial.peaks l.lay.n l.peaks l.s.sections l.raw_last l.last l.s.current l.s.strain l.j
