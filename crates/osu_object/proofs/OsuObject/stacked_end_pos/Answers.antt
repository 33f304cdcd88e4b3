-- `osu_object::OsuObject::stacked_end_pos` meets its contract. Assumes nothing.
use Rattle.osu_object.specs.Osu.{stacked_end_pos}
use Rattle.osu_object.proofs.OsuObject.stacked_end_pos.Goals as goal

pub returns : goal.returns
unfolding stacked_end_pos
returns c = simp (c.add.ensures, c.end_pos.ensures)
