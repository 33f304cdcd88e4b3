-- `skills_stars::base_performance` meets its contract. Assumes nothing.
use Rattle.skills_stars.specs.Stars.{base_performance}
use Rattle.skills_stars.proofs.base_performance.Goals as goal

pub returns : goal.returns
unfolding base_performance
returns c = simp (c.power.ensures, c.power-flashlight.ensures, c.flashlight_to_performance.ensures, c.power-speed.ensures, c.difficulty_to_performance-2.ensures, c.power-aim.ensures, c.difficulty_to_performance.ensures)
