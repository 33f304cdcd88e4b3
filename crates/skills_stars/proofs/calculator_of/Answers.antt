-- `skills_stars::calculator_of` meets its contract. Assumes nothing.
use Rattle.skills_stars.specs.Stars.{calculator_of}
use Rattle.skills_stars.proofs.calculator_of.Goals as goal

pub returns : goal.returns
unfolding calculator_of
returns c = simp (c.new.ensures, c.slider_factor.ensures, c.calculate_mechanical_difficulty_rating-mechanical.ensures)
