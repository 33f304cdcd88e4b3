-- `skills_rating::mods::Mods::speed_attracted` meets its contract. Assumes nothing.
use Rattle.skills_rating.specs.Rating.{attracted_by, speed_attracted}
use Rattle.skills_rating.proofs.mods.Mods.speed_attracted.Goals as goal

pub returns-in-Some : goal.returns-in-Some
unfolding attracted_by speed_attracted
returns-in-Some c = simp c.in-Some.is

pub returns : goal.returns
unfolding attracted_by speed_attracted
returns c = simp c.in_default.is
