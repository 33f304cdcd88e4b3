-- `skills_stars::calculate_mechanical_difficulty_rating` meets its contract. Assumes nothing.
use Rattle.skills_stars.specs.Stars.{calculate_mechanical_difficulty_rating}
use Rattle.skills_stars.proofs.calculate_mechanical_difficulty_rating.Goals as goal

pub returns : goal.returns
unfolding calculate_mechanical_difficulty_rating
returns c = simp (c.calculate_star_rating.ensures, c.power-3.ensures, c.power-2.ensures, c.power.ensures, c.difficulty_to_performance-speed.ensures, c.calculate_difficulty_rating-2.ensures, c.difficulty_to_performance-aim.ensures, c.calculate_difficulty_rating.ensures)
