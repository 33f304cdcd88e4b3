-- `skills_rating::mods::Mods::from_word` meets its contract. Assumes nothing.
use Rattle.skills_rating.specs.Mods.{mods_of}
use Rattle.skills_rating.proofs.mods.Mods.from_word.Goals as goal

pub returns : goal.returns
unfolding mods_of
returns c = simp (c.then_some.ensures, c.then_some-2.ensures)
