-- `osu_difficulty_object::turn_of` meets its contract. Assumes nothing.
use Rattle.osu_difficulty_object.specs.Record.{turn_of}
use Rattle.osu_difficulty_object.proofs.turn_of.Goals as goal

pub returns-then-j-is_spinner : goal.returns-then-j-is_spinner
unfolding turn_of
returns-then-j-is_spinner c = simp (← c.is_spinner-3.ensures, ← c.is_spinner-2.ensures, ← c.is_spinner.ensures, c.if-j-is_spinner.true) (simp (c.angle_to.ensures, c.get_end_cursor_pos.ensures, c.last_cursor_pos.ensures, c.stacked_pos.ensures))

pub returns : goal.returns
unfolding turn_of
returns c = simp (← c.is_spinner-3.ensures, ← c.is_spinner-2.ensures, ← c.is_spinner.ensures, c.if-j-is_spinner.false)
