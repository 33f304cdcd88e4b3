-- `skills_rating::visibility_factor` meets its contract. Assumes nothing.
use Rattle.skills_rating.specs.Rating.{visibility_factor}
use Rattle.skills_rating.proofs.visibility_factor.Goals as goal

pub returns : goal.returns
unfolding visibility_factor
returns c = simp (c.reverse_lerp.ensures, c.lerp-starting_point.ensures, c.reverse_lerp-mechanical.ensures)
