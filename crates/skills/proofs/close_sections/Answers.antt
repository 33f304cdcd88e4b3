-- `skills::close_sections` meets its contract: a turn is one `close_one`, and the counter is what `close_to` counts. Assumes nothing.
use Rattle.std.proofs.Common.{rules, refl}
use Rattle.skills.proofs.Closing.{next, stop, full}
use Rattle.skills.proofs.close_sections.Goals as goal

pub loop-s-init : goal.loop-s-init
loop-s-init c = record { within = c.requires.0; kept = refl; walk = refl }

pub loop-s-preserved : goal.loop-s-preserved
loop-s-preserved c = rw c.calculate_initial_strain.ensures (next c.loop-s.invariant (search rules) (search rules) c.if-s-start.true)

pub returns-else-s-start : goal.returns-else-s-start
returns-else-s-start c = (c.loop-s.invariant.within, stop c.loop-s.invariant c.if-s-start.false)

pub returns-after-loop-s : goal.returns-after-loop-s
returns-after-loop-s c = (c.loop-s.invariant.within, full c.loop-s.invariant (search rules))
