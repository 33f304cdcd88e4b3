-- `skills_rating::mods::Mods::touched` meets its contract. Assumes nothing.
use Rattle.skills_rating.specs.Rating.{touched}
use Rattle.skills_rating.proofs.mods.Mods.touched.Goals as goal

pub returns-then-self : goal.returns-then-self
unfolding touched
returns-then-self c = simp (c.power.ensures, c.if-self.true)

pub returns : goal.returns
unfolding touched
returns c = simp c.if-self.false
