-- `skills::close_sections` meets its contract: a turn is one `close_one`, and the counter is what `close_to` counts. Assumes nothing.
use Rattle.std.proofs.Common.{◌-◌}
use Rattle.skills.specs.Strains.{room, initial_strain}
use Rattle.skills.proofs.Closing.{Closing}
use Rattle.skills.proofs.close_sections.Given as goal

abbrev pub invariant-loop-s : goal.invariant-loop-s
invariant-loop-s l = Closing l.initial.peaks l.initial.s (initial_strain l.skill l.strain l.last) l.start l.peaks l.s

abbrev pub decreases-loop-s : goal.decreases-loop-s
decreases-loop-s l = room - l.s.count
