-- `osu_difficulty_object::jump_dist` meets its contract. Assumes nothing.
use Rattle.osu_difficulty_object.specs.Record.{jump_dist}
use Rattle.osu_difficulty_object.proofs.jump_dist.Goals as goal

pub returns : goal.returns
unfolding jump_dist
returns c = simp (c.widen.ensures, c.length.ensures, c.sub-jump.ensures, c.mul-2.ensures, c.mul.ensures, c.stacked_pos.ensures)
