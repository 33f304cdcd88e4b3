-- `osu_difficulty_object::jump_of` meets its contract. Assumes nothing.
use Rattle.osu_difficulty_object.specs.Record.{jump_of, jump_from}
use Rattle.osu_difficulty_object.proofs.jump_of.Goals as goal

pub returns-then-is_spinner : goal.returns-then-is_spinner
unfolding jump_of
returns-then-is_spinner c = simp (← c.is_spinner-2.ensures, ← c.is_spinner.ensures, c.if-is_spinner.true)

pub returns-then-j-is_slider : goal.returns-then-j-is_slider
unfolding jump_of jump_from
returns-then-j-is_slider c = simp (← c.is_spinner-2.ensures, ← c.is_spinner.ensures, c.if-is_spinner.false) (simp (← c.is_slider.ensures, c.if-j-is_slider.true, c.slider_jump.ensures, c.jump_dist-lazy_dist.ensures, c.last_cursor_pos.ensures))

pub returns : goal.returns
unfolding jump_of jump_from
returns c = simp (← c.is_spinner-2.ensures, ← c.is_spinner.ensures, c.if-is_spinner.false) (simp (← c.is_slider.ensures, c.if-j-is_slider.false, c.jump_dist-lazy_dist.ensures, c.last_cursor_pos.ensures))
