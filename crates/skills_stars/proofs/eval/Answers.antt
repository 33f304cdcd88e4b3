-- `skills_stars::eval` meets its contract. Assumes nothing.
use Rattle.skills_stars.specs.Stars.{ratings_of}
use Rattle.skills_stars.proofs.eval.Goals as goal

pub returns : goal.returns
unfolding ratings_of
returns c = simp (c.calculate_star_rating-stars.ensures, c.base_performance-performance.ensures, c.compute_flashlight_rating-flashlight.ensures, c.compute_speed_rating-speed.ensures, c.compute_aim_rating-aim.ensures, c.calculator_of-by.ensures)
