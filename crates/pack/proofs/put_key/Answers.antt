-- `pack::put_key` meets its contract: the part that is copied over is the row. Assumes nothing.
use Rattle.std.proofs.Common.{drop-drop, ◌≡◌, ◌+◌, ◌-◌, ◌*◌}
use native.Mathlib.Omega.{arith}
use Rattle.num_tables.specs.Parts.{put}
use Rattle.pack.proofs.put_key.Goals as goal

pub returns : goal.returns
unfolding put
returns c = let e : 4 * c.args.i + 4 - 4 * c.args.i ≡ 4 = omega arith in rw (c.copy_from_slice.ensures.after, e, drop-drop)
