-- `osu_records::record_at` meets its contract. Assumes nothing.
use Rattle.osu_records.specs.Rows.{record_from}
use Rattle.osu_records.proofs.record_at.Goals as goal

pub returns : goal.returns
unfolding record_from
returns c = simp (c.f64_to_f32.ensures, c.f64_to_f32-2.ensures)
