-- `osu_records::part_of` meets its contract. Assumes nothing.
use Rattle.osu_records.proofs.part_of.Goals as goal

pub returns : goal.returns
returns c = (c.first_place.ensures, c.last_place.ensures)
