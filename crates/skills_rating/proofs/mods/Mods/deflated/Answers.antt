-- `skills_rating::mods::Mods::deflated` meets its contract. Assumes nothing.
use Rattle.skills_rating.specs.Rating.{deflated_by, deflated}
use Rattle.skills_rating.proofs.mods.Mods.deflated.Goals as goal

pub returns-in-Some : goal.returns-in-Some
unfolding deflated_by deflated
returns-in-Some c = simp (c.clamp.ensures, c.reverse_lerp-share.ensures, c.in-Some.is)

pub returns : goal.returns
unfolding deflated_by deflated
returns c = simp c.in_default.is
