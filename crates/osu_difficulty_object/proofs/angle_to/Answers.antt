-- `osu_difficulty_object::angle_to` meets its contract. Assumes nothing.
use Rattle.osu_difficulty_object.specs.Record.{angle_to}
use Rattle.osu_difficulty_object.proofs.angle_to.Goals as goal

pub returns : goal.returns
unfolding angle_to
returns c = simp (c.angle.ensures, c.widen-2.ensures, c.det.ensures, c.widen.ensures, c.dot.ensures, c.sub-v2.ensures, c.stacked_pos.ensures, c.sub-v1.ensures)
