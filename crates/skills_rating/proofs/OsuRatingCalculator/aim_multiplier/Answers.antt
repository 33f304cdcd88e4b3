-- `skills_rating::OsuRatingCalculator::aim_multiplier` meets its contract. Assumes nothing.
use Rattle.skills_rating.specs.Rating.{aim_multiplier}
use Rattle.skills_rating.proofs.OsuRatingCalculator.aim_multiplier.Goals as goal

pub returns-then-mods : goal.returns-then-mods
unfolding aim_multiplier
returns-then-mods c = simp (c.calculate_visibility_bonus-bonus.ensures, c.calculate_aim_visibility_factor-factor.ensures, c.if-mods.true, c.accuracy_factor-accuracy.ensures, c.ar_length_bonus.ensures, c.aim_ar_factor.ensures)

pub returns : goal.returns
unfolding aim_multiplier
returns c = simp (c.if-mods.false, c.accuracy_factor-accuracy.ensures, c.ar_length_bonus.ensures, c.aim_ar_factor.ensures)
