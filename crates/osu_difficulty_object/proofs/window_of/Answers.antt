-- `osu_difficulty_object::window_of` meets its contract. Assumes nothing.
use Rattle.osu_difficulty_object.specs.Reading.{window_of}
use Rattle.osu_difficulty_object.proofs.window_of.Goals as goal

pub returns-then-is_spinner : goal.returns-then-is_spinner
unfolding window_of
returns-then-is_spinner c = simp c.if-is_spinner.true

pub returns-else-is_spinner : goal.returns-else-is_spinner
unfolding window_of
returns-else-is_spinner c = simp c.if-is_spinner.false
