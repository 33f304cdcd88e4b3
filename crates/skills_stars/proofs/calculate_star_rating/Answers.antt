-- `skills_stars::calculate_star_rating` meets its contract. Assumes nothing.
use Rattle.skills_stars.specs.Stars.{calculate_star_rating}
use Rattle.skills_stars.proofs.calculate_star_rating.Goals as goal

pub returns-then-base_performance : goal.returns-then-base_performance
unfolding calculate_star_rating
returns-then-base_performance c = simp c.if-base_performance.true

pub returns : goal.returns
unfolding calculate_star_rating
returns c = simp (c.cbrt.ensures, c.cbrt-root.ensures, c.power-scale.ensures, c.if-base_performance.false)
