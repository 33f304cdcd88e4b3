-- `osu_difficulty_object::fade_out` meets its contract. Assumes nothing.
use Rattle.osu_difficulty_object.specs.Reading.{fade_out}
use Rattle.osu_difficulty_object.proofs.fade_out.Goals as goal

pub returns : goal.returns
unfolding fade_out
returns c = simp c.clamp.ensures
