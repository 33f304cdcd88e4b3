-- `skills_rating::OsuRatingCalculator::compute_flashlight_rating` meets its contract. Assumes nothing.
use Rattle.skills_rating.specs.Rating.{compute_flashlight_rating}
use Rattle.skills_rating.proofs.OsuRatingCalculator.compute_flashlight_rating.Goals as goal

pub returns-then-not-mods : goal.returns-then-not-mods
unfolding compute_flashlight_rating
returns-then-not-mods c = simp c.if-not-mods.true

pub returns : goal.returns
unfolding compute_flashlight_rating
returns c = simp (c.root.ensures, c.flashlight_multiplier.ensures, c.deflated.ensures, c.attracted.ensures, c.helped-helped.ensures, c.touched.ensures, c.calculate_difficulty_rating-rating.ensures, c.if-not-mods.false)
