-- `skills::walk_three` meets its contract: each of the three walks is `walk`'s. Assumes nothing.
use native.Mathlib.Omega.{arith}
use mathlib.Core.Path.{ap, ◌∙◌}
use lib.Ieee.{Float}
use Rattle.num_floats.specs.Numbers.{◌⊘◌}
use Rattle.skills.specs.declared.Skill.TheVariants.{Aim, AimNoSliders, Flashlight}
use Rattle.skills.specs.declared.Skill.{Skill}
use Rattle.skills.specs.Shown.{opened}
use Rattle.skills.proofs.Strands.{Alike, alike_decay, alike_aim, alike_plain, alike_light, strand_first, strand_next, strand_done}
use Rattle.skills.proofs.walk_three.Goals as goal

pub loop-j-init : goal.loop-j-init
loop-j-init c =
    let a = c.args in
    let er = c.raw_start-raw_last.ensures in
    let ew = c.open_first-first.ensures ∙ ap (λ (x : Float). opened (x ⊘ a.clock)) c.raw_start.ensures in (
      strand_first a.chart.now a.lay a.clock a.values.now Aim a.aim.now a.lay.n c.raw_start-raw_last.result c.open_first-first.result c.new-a.result c.requires.1 er ew c.new-a.ensures,
      strand_first a.chart.now a.lay a.clock a.values.now AimNoSliders a.aim_no_sliders.now a.lay.n c.raw_start-raw_last.result c.open_first-first.result c.new-b.result c.requires.1 er ew c.new-b.ensures,
      strand_first a.chart.now a.lay a.clock a.values.now Flashlight a.flashlight.now a.lay.n c.raw_start-raw_last.result c.open_first-first.result c.new-c.result c.requires.1 er ew c.new-c.ensures,
    )

pub raw_start-raw-requires : goal.raw_start-raw-requires
raw_start-raw-requires c = (c.requires.0.holds, c.loop-j-test.true)

pub advance-a-requires : goal.advance-a-requires
advance-a-requires c = let l = c.loop-j in (l.invariant.0.within, omega (arith, l.invariant.0.kept, c.requires.2), omega (arith, c.requires.0.rows, c.loop-j-test.true))

pub advance-b-requires : goal.advance-b-requires
advance-b-requires c = let l = c.loop-j in (l.invariant.1.within, omega (arith, l.invariant.1.kept, c.requires.3), omega (arith, c.requires.0.rows, c.loop-j-test.true))

pub advance-c-requires : goal.advance-c-requires
advance-c-requires c = let l = c.loop-j in (l.invariant.2.within, omega (arith, l.invariant.2.kept, c.requires.4), omega (arith, c.requires.0.rows, c.loop-j-test.true))

pub loop-j-preserved : goal.loop-j-preserved
loop-j-preserved c =
    let l = c.loop-j in
    let h = c.loop-j-test.true in
    let er = c.raw_start-raw.ensures in
    let p = c.requires in
    let d = c.decay-decay in
    let ed = λ (k : Skill). λ (al : Alike k). alike_decay k al _ d.result d.ensures in (
      strand_next _ _ _ _ Aim l.invariant.0 p.2 h c.raw_start-raw.result er d.result (ed Aim alike_aim) c.advance-a.new.peaks c.advance-a.result c.advance-a.auto.peaks c.advance-a.ensures,
      strand_next _ _ _ _ AimNoSliders l.invariant.1 p.3 h c.raw_start-raw.result er d.result (ed AimNoSliders alike_plain) c.advance-b.new.peaks c.advance-b.result c.advance-b.auto.peaks c.advance-b.ensures,
      strand_next _ _ _ _ Flashlight l.invariant.2 p.4 h c.raw_start-raw.result er d.result (ed Flashlight alike_light) c.advance-c.new.peaks c.advance-c.result c.advance-c.auto.peaks c.advance-c.ensures,
    )

pub close_last-requires : goal.close_last-requires
close_last-requires c = let l = c.loop-j in (l.invariant.0.within, omega (arith, l.invariant.0.kept, c.requires.2))

pub close_last-requires-2 : goal.close_last-requires-2
close_last-requires-2 c = let l = c.loop-j in (l.invariant.1.within, omega (arith, l.invariant.1.kept, c.requires.3))

pub close_last-requires-3 : goal.close_last-requires-3
close_last-requires-3 c = let l = c.loop-j in (l.invariant.2.within, omega (arith, l.invariant.2.kept, c.requires.4))

pub shape_of-aim : goal.shape_of-aim
shape_of-aim c = c.close_last.auto.peaks ∙ c.loop-j.invariant.0.kept

pub shape_of-aim_no_sliders : goal.shape_of-aim_no_sliders
shape_of-aim_no_sliders c = c.close_last-2.auto.peaks ∙ c.loop-j.invariant.1.kept

pub shape_of-flashlight : goal.shape_of-flashlight
shape_of-flashlight c = c.close_last-3.auto.peaks ∙ c.loop-j.invariant.2.kept

pub returns : goal.returns
returns c =
    let l = c.loop-j in
    let h = c.loop-j-test.false in
    let p = c.requires in record {
      aim = strand_done _ _ _ _ Aim l.invariant.0 p.2 h c.close_last.result c.close_last.new.peaks c.close_last.ensures.0 c.close_last.ensures.1;
      plain = strand_done _ _ _ _ AimNoSliders l.invariant.1 p.3 h c.close_last-2.result c.close_last-2.new.peaks c.close_last-2.ensures.0 c.close_last-2.ensures.1;
      light = strand_done _ _ _ _ Flashlight l.invariant.2 p.4 h c.close_last-3.result c.close_last-3.new.peaks c.close_last-3.ensures.0 c.close_last-3.ensures.1;
    }
