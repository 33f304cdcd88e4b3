-- `osu_difficulty_object::fade_in` meets its contract. Assumes nothing.
use Rattle.osu_difficulty_object.specs.Reading.{fade_in}
use Rattle.osu_difficulty_object.proofs.fade_in.Goals as goal

pub returns : goal.returns
unfolding fade_in
returns c = simp c.clamp.ensures
