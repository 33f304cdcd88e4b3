-- `osu_difficulty_object::cursor::folded` meets its contract. Assumes nothing.
use Rattle.osu_difficulty_object.specs.Cursor.{folded_of}
use Rattle.osu_difficulty_object.proofs.cursor.folded.Goals as goal

pub returns-then-rem_two : goal.returns-then-rem_two
unfolding folded_of
returns-then-rem_two c = simp (← c.rem_two.ensures, c.if-rem_two.true, c.rem_one.ensures)

pub returns : goal.returns
unfolding folded_of
returns c = simp (← c.rem_two.ensures, c.if-rem_two.false, c.rem_one-2.ensures)
