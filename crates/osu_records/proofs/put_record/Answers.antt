-- `osu_records::put_record` meets its contract. Assumes nothing.
use Rattle.osu_records.specs.Rows.{row_of}
use Rattle.osu_records.proofs.Laws.{writes_put}
use Rattle.osu_records.proofs.put_record.Goals as goal

pub returns : goal.returns
unfolding row_of
returns c = simp (c.number_of-2.ensures, c.number_of.ensures, c.widen-2.ensures, c.widen.ensures) (writes_put c.args.t.now c.args.j c.args.r c.requires.1)
