-- `skills_rating::OsuRatingCalculator::calculate_difficulty_rating` meets its contract. Assumes nothing.
use Rattle.skills_rating.specs.Rating.{calculate_difficulty_rating}
use Rattle.skills_rating.proofs.OsuRatingCalculator.calculate_difficulty_rating.Goals as goal

pub returns : goal.returns
unfolding calculate_difficulty_rating
returns c = simp c.root.ensures
