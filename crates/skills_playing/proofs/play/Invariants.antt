-- `skills_playing::play` meets its contract: before place j the entries 2 to j are written. Assumes nothing.
use mathlib.Core.Path.{◌≡◌}
use lib.ListN.{length}
use Rattle.skills_playing.proofs.Walking.{Walking}
use Rattle.skills_playing.proofs.play.Given as goal

abbrev pub invariant-loop-j : goal.invariant-loop-j
invariant-loop-j l = (Walking l.chart l.lay l.clock l.values l.initial.list l.lay.n l.aim l.aim_no_sliders l.speed l.flashlight l.list l.s l.raw_last l.last l.j) × (length l.aim ≡ length l.initial.aim) × (length l.aim_no_sliders ≡ length l.initial.aim_no_sliders) × (length l.speed ≡ length l.initial.speed) × (length l.flashlight ≡ length l.initial.flashlight)
