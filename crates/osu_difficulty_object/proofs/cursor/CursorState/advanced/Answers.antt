-- `osu_difficulty_object::cursor::CursorState::advanced` meets its contract. Assumes nothing.
use Rattle.osu_difficulty_object.specs.Cursor.{advanced_of}
use Rattle.osu_difficulty_object.proofs.cursor.CursorState.advanced.Goals as goal

pub returns-then-movement_len-required : goal.returns-then-movement_len-required
unfolding advanced_of
returns-then-movement_len-required c = simp (c.if-movement_len-required.true, c.add.ensures, c.mul.ensures, c.f64_to_f32.ensures)

pub returns : goal.returns
unfolding advanced_of
returns c = simp c.if-movement_len-required.false
