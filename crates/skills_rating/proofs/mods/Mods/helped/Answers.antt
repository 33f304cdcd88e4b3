-- `skills_rating::mods::Mods::helped` meets its contract. Assumes nothing.
use Rattle.skills_rating.specs.Rating.{helped}
use Rattle.skills_rating.proofs.mods.Mods.helped.Goals as goal

pub returns-then-self : goal.returns-then-self
unfolding helped
returns-then-self c = simp c.if-self.true

pub returns : goal.returns
unfolding helped
returns c = simp (c.scaled_if.ensures, c.if-self.false)
