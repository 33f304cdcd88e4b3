-- `skills_stars::flashlight_to_performance` meets its contract. Assumes nothing.
use Rattle.skills_stars.specs.Stars.{flashlight_to_performance}
use Rattle.skills_stars.proofs.flashlight_to_performance.Goals as goal

pub returns : goal.returns
unfolding flashlight_to_performance
returns c = simp c.power.ensures
