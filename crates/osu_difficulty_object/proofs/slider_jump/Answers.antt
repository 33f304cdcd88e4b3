-- `osu_difficulty_object::slider_jump` meets its contract. Assumes nothing.
use Rattle.osu_difficulty_object.specs.Record.{slider_jump}
use Rattle.osu_difficulty_object.proofs.slider_jump.Goals as goal

pub returns : goal.returns
unfolding slider_jump
returns c = simp (c.min_jump_time.ensures, c.min_jump_dist.ensures, c.add-stacked_tail.ensures)
