-- `osu_difficulty_object::set_distances` meets its contract. Assumes nothing.
use Rattle.osu_difficulty_object.proofs.set_distances.Goals as goal

pub returns : goal.returns
returns c = simp (c.turn_of.ensures, c.jump_of.ensures, c.travel_of.ensures)
