-- `skills_rating::length_factor` meets its contract. Assumes nothing.
use Rattle.skills_rating.specs.Rating.{length_factor}
use Rattle.skills_rating.proofs.length_factor.Goals as goal

pub returns : goal.returns
unfolding length_factor
returns c = simp (c.above.ensures, c.min-more.ensures, c.past_short.ensures, c.min-short.ensures)
