-- `osu_difficulty_object::min_jump_dist` meets its contract. Assumes nothing.
use Rattle.osu_difficulty_object.specs.Record.{min_jump_dist}
use Rattle.osu_difficulty_object.proofs.Radii.{max_radius, assumed_radius}
use Rattle.osu_difficulty_object.proofs.min_jump_dist.Goals as goal

pub returns : goal.returns
unfolding min_jump_dist
returns c = simp (max_radius, assumed_radius, c.max.ensures, c.min.ensures, c.widen-min.ensures, c.widen-diff.ensures, c.length.ensures, c.sub.ensures, c.stacked_pos.ensures)
