-- `skills_stars::difficulty_to_performance` meets its contract. Assumes nothing.
use Rattle.skills_stars.specs.Stars.{difficulty_to_performance}
use Rattle.skills_stars.proofs.difficulty_to_performance.Goals as goal

pub returns : goal.returns
unfolding difficulty_to_performance
returns c = simp (c.power.ensures, c.max-rating.ensures)
