-- `skills_rating::below_zero` meets its contract. Assumes nothing.
use Rattle.skills_rating.specs.Rating.{below_zero}
use Rattle.skills_rating.proofs.below_zero.Goals as goal

pub returns-then-approach_rate : goal.returns-then-approach_rate
unfolding below_zero
returns-then-approach_rate c = simp (c.either.ensures, c.power-still.ensures, c.if-approach_rate.true)

pub returns : goal.returns
unfolding below_zero
returns c = simp c.if-approach_rate.false
