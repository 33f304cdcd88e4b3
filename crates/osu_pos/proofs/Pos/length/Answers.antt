-- `osu_pos::Pos::length` meets its contract. Assumes nothing.
use Rattle.osu_pos.specs.Pos.{length_of}
use Rattle.osu_pos.proofs.Pos.length.Goals as goal

pub returns : goal.returns
unfolding length_of
returns c = c.root.ensures
