-- `osu_difficulty_object::tapness` meets its contract. Assumes nothing.
use Rattle.osu_difficulty_object.specs.Reading.{tapness_of}
use Rattle.osu_difficulty_object.proofs.tapness.Goals as goal

pub returns : goal.returns
unfolding tapness_of
returns c = simp (c.power.ensures, c.power-window_ratio.ensures, c.min.ensures, c.max.ensures, c.abs-delta_diff.ensures, c.max-next_delta_time.ensures, c.max-curr_delta_time.ensures)
