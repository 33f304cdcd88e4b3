-- `skills_rating::OsuRatingCalculator::flashlight_multiplier` meets its contract. Assumes nothing.
use Rattle.skills_rating.specs.Rating.{flashlight_multiplier}
use Rattle.skills_rating.proofs.OsuRatingCalculator.flashlight_multiplier.Goals as goal

pub returns : goal.returns
unfolding flashlight_multiplier
returns c = simp (c.length_factor.ensures, c.accuracy_factor-accuracy.ensures)
