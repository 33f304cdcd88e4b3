-- `skills_playing::play` meets its contract: before place j the entries 2 to j are written. Assumes nothing.
use native.Mathlib.Omega.{arith}
use mathlib.Core.Path.{refl, ap, ◌∙◌}
use lib.Ieee.{Float}
use Rattle.num_floats.specs.Numbers.{◌⊘◌}
use Rattle.skills_playing.specs.Kept.{first_played}
use Rattle.skills_playing.proofs.Walking.{walking_first, walking_next, walking_done}
use Rattle.skills_playing.proofs.play.Goals as goal

pub raw_start-requires : goal.raw_start-requires
raw_start-requires c = (c.requires.0.holds, omega (arith, c.requires.1))

pub raw_start-raw_last-requires : goal.raw_start-raw_last-requires
raw_start-raw_last-requires c = (c.requires.0.holds, omega (arith, c.requires.1))

pub loop-j-init : goal.loop-j-init
loop-j-init c =
    let a = c.args in
    let p = c.requires in (
      walking_first a.chart.now a.lay a.clock a.values.now a.list.now a.lay.n a.aim.now a.aim_no_sliders.now a.speed.now a.flashlight.now p.3 p.4 p.5 p.6 p.1 c.raw_start-raw_last.result c.raw_start-raw_last.ensures c.first_played-first.result
          (c.first_played-first.ensures ∙ ap (λ (x : Float). first_played (x ⊘ a.clock)) c.raw_start.ensures),
      refl,
      refl,
      refl,
      refl,
    )

pub raw_start-raw-requires : goal.raw_start-raw-requires
raw_start-raw-requires c = (c.requires.0.holds, c.loop-j-test.true)

pub place_all-s-requires : goal.place_all-s-requires
place_all-s-requires c = (c.loop-j.invariant.0.fit, c.loop-j.invariant.0.from, omega (arith, c.loop-j-test.true, c.requires.0.rows))

pub totals_of-totals-requires : goal.totals_of-totals-requires
totals_of-totals-requires c =
    let p = c.place_all-s.ensures in
    record { first = p.first.fit; second = p.second.fit; third = p.third.fit; fourth = p.fourth.fit }

pub put_row-requires : goal.put_row-requires
put_row-requires c = omega (arith, c.loop-j.invariant.0.kept, c.loop-j-test.true, c.requires.2)

pub loop-j-preserved : goal.loop-j-preserved
loop-j-preserved c =
    let p = c.place_all-s in
    let i = c.loop-j.invariant in (
      walking_next _ _ _ _ i.0 c.loop-j-test.true c.raw_start-raw.result c.raw_start-raw.ensures p.new.aim p.new.aim_no_sliders p.new.speed p.new.flashlight p.result p.ensures c.totals_of-totals.result c.totals_of-totals.ensures c.put_row.new.list c.put_row.ensures c.put_row.auto.list,
      p.auto.aim ∙ i.1,
      p.auto.aim_no_sliders ∙ i.2,
      p.auto.speed ∙ i.3,
      p.auto.flashlight ∙ i.4,
    )

pub returns : goal.returns
returns c = walking_done _ _ _ _ c.loop-j.invariant.0 c.loop-j-test.false
