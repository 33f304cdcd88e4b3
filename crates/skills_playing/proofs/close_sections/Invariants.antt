-- `skills_playing::close_sections` meets its contract. Assumes nothing.
use Prim.Native.Nat.{◌-◌}
use Rattle.skills_playing.proofs.Closing.{Closing}
use Rattle.skills_playing.proofs.close_sections.Given as goal

abbrev pub invariant-loop-s : goal.invariant-loop-s
invariant-loop-s l = Closing l.skill l.last l.start l.initial.peaks l.from l.peaks l.s

abbrev pub decreases-loop-s : goal.decreases-loop-s
decreases-loop-s l = 8191 - l.s.count
