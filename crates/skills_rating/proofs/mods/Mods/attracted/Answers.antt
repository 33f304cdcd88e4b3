-- `skills_rating::mods::Mods::attracted` meets its contract. Assumes nothing.
use Rattle.skills_rating.specs.Rating.{attracted_by, attracted}
use Rattle.skills_rating.proofs.mods.Mods.attracted.Goals as goal

pub returns-in-Some : goal.returns-in-Some
unfolding attracted_by attracted
returns-in-Some c = simp c.in-Some.is

pub returns : goal.returns
unfolding attracted_by attracted
returns c = simp c.in_default.is
