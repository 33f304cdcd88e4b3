-- `skills_rating::OsuRatingCalculator::compute_speed_rating` meets its contract. Assumes nothing.
use Rattle.skills_rating.specs.Rating.{compute_speed_rating}
use Rattle.skills_rating.proofs.OsuRatingCalculator.compute_speed_rating.Goals as goal

pub returns-then-mods : goal.returns-then-mods
unfolding compute_speed_rating
returns-then-mods c = simp c.if-mods.true

pub returns : goal.returns
unfolding compute_speed_rating
returns c = simp (c.cbrt.ensures, c.speed_multiplier.ensures, c.speed_attracted.ensures, c.scaled_if-piloted.ensures, c.calculate_difficulty_rating-rating.ensures, c.if-mods.false)
