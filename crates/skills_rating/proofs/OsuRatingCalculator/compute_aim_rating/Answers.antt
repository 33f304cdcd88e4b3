-- `skills_rating::OsuRatingCalculator::compute_aim_rating` meets its contract. Assumes nothing.
use Rattle.skills_rating.specs.Rating.{compute_aim_rating}
use Rattle.skills_rating.proofs.OsuRatingCalculator.compute_aim_rating.Goals as goal

pub returns-then-mods : goal.returns-then-mods
unfolding compute_aim_rating
returns-then-mods c = simp c.if-mods.true

pub returns : goal.returns
unfolding compute_aim_rating
returns c = simp (c.cbrt.ensures, c.aim_multiplier.ensures, c.attracted.ensures, c.scaled_if-relaxed.ensures, c.touched.ensures, c.calculate_difficulty_rating-rating.ensures, c.if-mods.false)
