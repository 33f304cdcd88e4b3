-- `skills_rating::aim_ar_factor` meets its contract. Assumes nothing.
use lib.Ieee.{of_bits}
use Rattle.skills_rating.specs.Rating.{aim_ar_factor}
use borrow.Author.Rules.{rules}
use Rattle.skills_rating.proofs.aim_ar_factor.Goals as goal

pub returns-then-relax : goal.returns-then-relax
unfolding of_bits aim_ar_factor
returns-then-relax c = search rules

pub returns-then-approach_rate : goal.returns-then-approach_rate
unfolding aim_ar_factor
returns-then-approach_rate c = simp (c.if-approach_rate.true, c.if-relax.false)

pub returns-then-approach_rate-2 : goal.returns-then-approach_rate-2
unfolding aim_ar_factor
returns-then-approach_rate-2 c = simp (c.if-approach_rate-2.true, c.if-approach_rate.false, c.if-relax.false)

pub returns : goal.returns
unfolding aim_ar_factor
returns c = simp (c.if-approach_rate-2.false, c.if-approach_rate.false, c.if-relax.false)
