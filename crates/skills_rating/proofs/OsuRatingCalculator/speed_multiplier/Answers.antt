-- `skills_rating::OsuRatingCalculator::speed_multiplier` meets its contract. Assumes nothing.
use Rattle.skills_rating.specs.Rating.{speed_multiplier}
use Rattle.skills_rating.proofs.OsuRatingCalculator.speed_multiplier.Goals as goal

pub returns-then-mods : goal.returns-then-mods
unfolding speed_multiplier
returns-then-mods c = simp (c.calculate_visibility_bonus-bonus.ensures, c.calculate_speed_visibility_factor-factor.ensures, c.if-mods.true, c.accuracy_factor-accuracy.ensures, c.ar_length_bonus.ensures, c.speed_ar_factor.ensures)

pub returns : goal.returns
unfolding speed_multiplier
returns c = simp (c.if-mods.false, c.accuracy_factor-accuracy.ensures, c.ar_length_bonus.ensures, c.speed_ar_factor.ensures)
