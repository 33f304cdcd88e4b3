-- `skills_stars::slider_factor` meets its contract. Assumes nothing.
use Rattle.skills_stars.specs.Stars.{slider_factor}
use Rattle.skills_stars.proofs.slider_factor.Goals as goal

pub returns-then-aim : goal.returns-then-aim
unfolding slider_factor
returns-then-aim c = simp (c.calculate_difficulty_rating-then-aim.ensures, c.calculate_difficulty_rating.ensures, c.if-aim.true)

pub returns : goal.returns
unfolding slider_factor
returns c = simp c.if-aim.false
