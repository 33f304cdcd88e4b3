-- `skills_playing::place_all` meets its contract. Assumes nothing.
use Rattle.skills_playing.proofs.place_all.Goals as goal

pub place-requires-3 : goal.place-requires-3
place-requires-3 c = (c.requires.0.third, c.requires.1, c.requires.2)

pub place-requires-4 : goal.place-requires-4
place-requires-4 c = (c.requires.0.fourth, c.requires.1, c.requires.2)

pub returns : goal.returns
returns c = record { first = c.place.ensures; second = c.place-2.ensures; third = c.place-3.ensures; fourth = c.place-4.ensures }
