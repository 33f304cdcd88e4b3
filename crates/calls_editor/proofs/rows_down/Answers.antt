-- `calls_editor::rows_down` meets its contract; where nothing moves, `rows_down_none`. Assumes nothing.
use mathlib.Core.Path.{sym}
use native.Mathlib.Omega.{arith}
use Rattle.num_tables.specs.Parts.{rows_down}
use Rattle.num_tables.proofs.Moves.{rows_down_none}
use borrow.Author.Rules.{rules}
use Rattle.calls_editor.proofs.rows_down.Goals as goal

pub returns-then-to-from-gt1 : goal.returns-then-to-from-gt1
unfolding rows_down
returns-then-to-from-gt1 c = search rules

pub returns-else-to-from-gt1 : goal.returns-else-to-from-gt1
returns-else-to-from-gt1 c = sym (rows_down_none _ _ _ _ (omega arith))
