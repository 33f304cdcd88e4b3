-- `skills_playing::close_sections` meets its contract. Assumes nothing.
use native.Mathlib.Omega.{arith}
use Rattle.skills_playing.proofs.Closing.{closing_first, closing_next, closing_stop, closing_full}
use Rattle.skills_playing.proofs.close_sections.Goals as goal

pub loop-s-init : goal.loop-s-init
loop-s-init c = closing_first _ _ _ _ _ c.requires

pub keep_peak-requires : goal.keep_peak-requires
keep_peak-requires c = (omega (arith, c.loop-s.invariant.fit.few, c.loop-s.invariant.fit.long, c.loop-s-test.true), c.loop-s.invariant.fit.sorted)

pub loop-s-preserved : goal.loop-s-preserved
loop-s-preserved c = closing_next c.loop-s.invariant c.loop-s-test.true c.if-s-start.true c.keep_peak.new.peaks c.keep_peak.result c.keep_peak.auto.peaks c.keep_peak.ensures.0 c.keep_peak.ensures.1 c.calculate_initial_strain.result c.calculate_initial_strain.ensures

pub returns-else-s-start : goal.returns-else-s-start
returns-else-s-start c = closing_stop c.loop-s.invariant c.if-s-start.false

pub returns-after-loop-s : goal.returns-after-loop-s
returns-after-loop-s c = closing_full c.loop-s.invariant c.loop-s-test.false
