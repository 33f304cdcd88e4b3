-- `osu_difficulty_object::cursor::CursorState::step` meets its contract. Assumes nothing.
use Rattle.osu_difficulty_object.specs.Cursor.{step_of, settled_of}
use Rattle.osu_difficulty_object.proofs.cursor.CursorState.step.Goals as goal

pub returns-then-last : goal.returns-then-last
unfolding step_of settled_of
returns-then-last c = simp (c.advanced-next.ensures, c.required_movement.ensures, c.widen.ensures, c.length.ensures, c.movement-movement.ensures, c.if-last.true)

pub returns : goal.returns
unfolding step_of settled_of
returns c = simp (c.advanced-next.ensures, c.required_movement.ensures, c.widen.ensures, c.length.ensures, c.movement-movement.ensures, c.if-last.false)
