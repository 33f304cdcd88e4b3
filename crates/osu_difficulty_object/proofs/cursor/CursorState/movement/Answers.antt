-- `osu_difficulty_object::cursor::CursorState::movement` meets its contract. Assumes nothing.
use Rattle.osu_difficulty_object.specs.Cursor.{movement_of}
use Rattle.osu_difficulty_object.proofs.cursor.CursorState.movement.Goals as goal

pub returns-then-length : goal.returns-then-length
unfolding movement_of
returns-then-length c = simp (c.sub-lazy_movement.ensures, c.if-last.true, rw (c.length-then-last.ensures, c.length.ensures, c.sub-lazy_movement.ensures, c.sub-movement.ensures, c.add.ensures) at c.if-length.true)

pub returns-else-length : goal.returns-else-length
unfolding movement_of
returns-else-length c = simp (c.sub-movement.ensures, c.add.ensures, c.if-last.true, rw (c.length-then-last.ensures, c.length.ensures, c.sub-lazy_movement.ensures, c.sub-movement.ensures, c.add.ensures) at c.if-length.false)

pub returns-else-last : goal.returns-else-last
unfolding movement_of
returns-else-last c = simp (c.if-last.false, c.sub-movement.ensures, c.add.ensures)
