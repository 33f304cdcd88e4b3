-- `skills_rating::speed_ar_factor` meets its contract. Assumes nothing.
use lib.Ieee.{of_bits}
use Rattle.skills_rating.specs.Rating.{speed_ar_factor}
use borrow.Author.Rules.{rules}
use Rattle.skills_rating.proofs.speed_ar_factor.Goals as goal

pub returns-then-autopilot : goal.returns-then-autopilot
unfolding of_bits speed_ar_factor
returns-then-autopilot c = search rules

pub returns-then-approach_rate : goal.returns-then-approach_rate
unfolding speed_ar_factor
returns-then-approach_rate c = simp (c.if-approach_rate.true, c.if-autopilot.false)

pub returns : goal.returns
unfolding speed_ar_factor
returns c = simp (c.if-approach_rate.false, c.if-autopilot.false)
