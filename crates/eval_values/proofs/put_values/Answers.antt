-- `eval_values::put_values` meets its contract: the part that is copied over is the row. Assumes nothing.
use Rattle.std.proofs.Common.{drop-drop, ◌≡◌, ◌+◌, ◌-◌, ◌*◌}
use native.Mathlib.Omega.{arith}
use Rattle.num_tables.specs.Parts.{put}
use Rattle.eval_values.specs.Values.{row_of}
use Rattle.eval_values.proofs.put_values.Goals as goal

pub returns : goal.returns
unfolding row_of put
returns c = let e : 5 * c.args.j + 5 - 5 * c.args.j ≡ 5 = omega arith in rw (c.copy_from_slice.ensures.after, e, drop-drop)
