-- `skills_rating::OsuRatingCalculator::calculate_visibility_bonus` meets its contract. Assumes nothing.
use Rattle.skills_rating.specs.Rating.{calculate_visibility_bonus}
use Rattle.skills_rating.proofs.OsuRatingCalculator.calculate_visibility_bonus.Goals as goal

pub returns : goal.returns
unfolding calculate_visibility_bonus
returns c = simp (c.below_zero.ensures, c.below_slow-slow.ensures, c.max.ensures, c.power-slider.ensures)
