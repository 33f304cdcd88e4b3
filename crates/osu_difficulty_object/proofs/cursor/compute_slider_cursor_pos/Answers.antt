-- `osu_difficulty_object::cursor::compute_slider_cursor_pos` meets its contract. Assumes nothing.
use Rattle.osu_difficulty_object.specs.Cursor.{slider_cursor, cursor_from}
use Rattle.osu_object.proofs.Lists.{length_list}
use Rattle.osu_difficulty_object.proofs.cursor.compute_slider_cursor_pos.Goals as goal

pub returns : goal.returns
unfolding slider_cursor cursor_from
returns c = simp (length_list, c.run-s.ensures, c.start_state-from.ensures, c.stacked_pos.ensures, c.tracking_of-t.ensures.0, c.tracking_end.ensures)
