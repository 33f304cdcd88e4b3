-- `osu_difficulty_object::cursor::tracking_end` meets its contract. Assumes nothing.
use Rattle.osu_difficulty_object.specs.Cursor.{tracking_end}
use Rattle.osu_difficulty_object.proofs.cursor.tracking_end.Goals as goal

pub returns : goal.returns
unfolding tracking_end
returns c = simp c.max.ensures
