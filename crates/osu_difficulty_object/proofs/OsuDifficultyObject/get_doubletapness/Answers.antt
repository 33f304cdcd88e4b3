-- `osu_difficulty_object::OsuDifficultyObject::get_doubletapness` meets its contract. Assumes nothing.
use Rattle.osu_difficulty_object.specs.Reading.{doubletapness}
use Rattle.osu_difficulty_object.proofs.OsuDifficultyObject.get_doubletapness.Goals as goal

pub returns-in-None : goal.returns-in-None
unfolding doubletapness
returns-in-None c = simp c.in-None.is

pub returns-in-Some : goal.returns-in-Some
unfolding doubletapness
returns-in-Some c = simp (c.tapness.ensures, c.window_of.ensures, c.in-Some.is)
