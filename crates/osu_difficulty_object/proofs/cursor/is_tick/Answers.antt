-- `osu_difficulty_object::cursor::is_tick` meets its contract. Assumes nothing.
use Rattle.osu_difficulty_object.proofs.cursor.is_tick.Goals as goal

pub returns : goal.returns
returns c = simp c.nested.ensures
