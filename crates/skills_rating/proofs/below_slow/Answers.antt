-- `skills_rating::below_slow` meets its contract. Assumes nothing.
use Rattle.skills_rating.specs.Rating.{below_slow}
use Rattle.skills_rating.proofs.below_slow.Goals as goal

pub returns-then-approach_rate : goal.returns-then-approach_rate
unfolding below_slow
returns-then-approach_rate c = simp (c.either.ensures, c.max-slow.ensures, c.if-approach_rate.true)

pub returns : goal.returns
unfolding below_slow
returns c = simp c.if-approach_rate.false
