-- `osu_records::sight_at` meets its contract. Assumes nothing.
use Rattle.osu_records.proofs.sight_at.Goals as goal

pub returns : goal.returns
returns c = simp (c.base_at.ensures, c.record_at.ensures)
