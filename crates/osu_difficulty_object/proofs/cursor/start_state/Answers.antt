-- `osu_difficulty_object::cursor::start_state` meets its contract. Assumes nothing.
use Rattle.osu_difficulty_object.specs.Cursor.{start_of}
use Rattle.osu_difficulty_object.proofs.cursor.start_state.Goals as goal

pub returns : goal.returns
unfolding start_of
returns c = simp (c.add.ensures, c.position_at.ensures, c.folded.ensures)
