-- `osu_difficulty_object::OsuDifficultyObject::new` meets its contract. Assumes nothing.
use Rattle.osu_difficulty_object.specs.Record.{new_record}
use Rattle.osu_difficulty_object.proofs.OsuDifficultyObject.new.Goals as goal

pub returns : goal.returns
unfolding new_record
returns c = simp (c.is_some.ensures, c.unwrap_or.ensures, c.max.ensures, c.set_distances-angle.ensures, c.max-adjusted.ensures)
