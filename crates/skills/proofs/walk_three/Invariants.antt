-- `skills::walk_three` meets its contract: each of the three walks is `walk`'s. Assumes nothing.
use Rattle.skills.specs.declared.Skill.TheVariants.{Aim, AimNoSliders, Flashlight}
use Rattle.skills.proofs.Places.{Walked}
use Rattle.skills.proofs.walk_three.Given as goal

abbrev pub invariant-loop-j : goal.invariant-loop-j
invariant-loop-j l =
    Walked l.chart l.lay l.clock l.values Aim l.initial.aim l.lay.n l.aim l.a.sections l.raw_last l.last l.a.current l.a.strain l.j
    × Walked l.chart l.lay l.clock l.values AimNoSliders l.initial.aim_no_sliders l.lay.n l.aim_no_sliders l.b.sections l.raw_last l.last l.b.current l.b.strain l.j
    × Walked l.chart l.lay l.clock l.values Flashlight l.initial.flashlight l.lay.n l.flashlight l.c.sections l.raw_last l.last l.c.current l.c.strain l.j
