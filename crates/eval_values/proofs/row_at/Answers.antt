-- `eval_values::row_at` meets its contract. Assumes nothing.
use Rattle.eval_values.specs.Values.{row_of}
use Rattle.eval_values.proofs.Rows.{row_five}
use mathlib.Core.Path.{sym}
use Rattle.eval_values.proofs.row_at.Goals as goal

pub returns : goal.returns
unfolding row_of
returns c =
    sym (row_five c.args.values.now c.args.j c.requires)
