-- `skills::strains_into` meets its contract: a turn puts one row of one number. Assumes nothing.
use Rattle.skills.proofs.Places.{Strained}
use Rattle.skills.proofs.strains_into.Given as goal

abbrev pub invariant-loop-j : goal.invariant-loop-j
invariant-loop-j l = Strained l.chart l.lay l.clock l.values l.skill l.initial.out l.n l.out l.raw_last l.current l.j
