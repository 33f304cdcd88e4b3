-- `skills_rating::accuracy_factor` meets its contract. Assumes nothing.
use Rattle.skills_rating.specs.Rating.{accuracy_factor}
use Rattle.skills_rating.proofs.accuracy_factor.Goals as goal

pub returns : goal.returns
unfolding accuracy_factor
returns c = simp (c.power.ensures, c.max.ensures)
