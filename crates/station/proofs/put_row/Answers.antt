-- `station::put_row` meets its contract: the part that is copied over is the row. Assumes nothing.
use Rattle.std.proofs.Common.{zero-add}
use Rattle.num_tables.specs.Parts.{put}
use Rattle.station.proofs.put_row.Goals as goal

pub returns : goal.returns
unfolding put
returns c = rw (c.copy_from_slice.ensures.after, zero-add)
