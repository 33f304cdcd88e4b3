-- `osu_difficulty_object::min_jump_time` meets its contract. Assumes nothing.
use Rattle.osu_difficulty_object.specs.Record.{min_jump_time}
use Rattle.osu_difficulty_object.proofs.min_jump_time.Goals as goal

pub returns : goal.returns
unfolding min_jump_time
returns c = simp (c.max.ensures, c.max-last_travel_time.ensures)
