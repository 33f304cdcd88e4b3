-- `skills::walk` meets its contract: what it holds before place j is what the definitions have at place j - 1. Assumes nothing.
use Rattle.std.proofs.Common.{arith, ap, ◌∙◌}
use Rattle.std.specs.Prelude.{Float}
use Rattle.num_floats.specs.Numbers.{◌⊘◌}
use Rattle.skills.specs.Shown.{opened}
use Rattle.skills.proofs.Strands.{strand_first, strand_next, strand_done}
use Rattle.skills.proofs.walk.Goals as goal

pub loop-j-init : goal.loop-j-init
loop-j-init c =
    let a = c.args in
    strand_first a.chart.now a.lay a.clock a.values.now a.skill a.peaks.now a.lay.n c.raw_start-raw_last.result c.open_first-first.result c.new-s.result c.requires.1 c.raw_start-raw_last.ensures
    (c.open_first-first.ensures ∙ ap (λ (x : Float). opened (x ⊘ a.clock)) c.raw_start.ensures) c.new-s.ensures

pub advance-s-requires : goal.advance-s-requires
advance-s-requires c = let i = c.loop-j.invariant in (i.within, omega (arith, i.kept, c.requires.2), omega (arith, c.requires.0.rows, c.loop-j-test.true))

pub loop-j-preserved : goal.loop-j-preserved
loop-j-preserved c =
    let g = c.advance-s in
    strand_next _ _ _ _ _ c.loop-j.invariant c.requires.2 c.loop-j-test.true c.raw_start-raw.result c.raw_start-raw.ensures c.decay-decay.result c.decay-decay.ensures g.new.peaks g.result g.auto.peaks g.ensures

pub close_last-requires : goal.close_last-requires
close_last-requires c = let i = c.loop-j.invariant in (i.within, omega (arith, i.kept, c.requires.2))

pub returns : goal.returns
returns c = strand_done _ _ _ _ _ c.loop-j.invariant c.requires.2 c.loop-j-test.false c.close_last.result c.close_last.new.peaks c.close_last.ensures.0 c.close_last.ensures.1
