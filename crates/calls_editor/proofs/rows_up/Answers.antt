-- `calls_editor::rows_up` meets its contract; where nothing moves, `rows_up_none`. Assumes nothing.
use mathlib.Core.Path.{sym}
use native.Mathlib.Omega.{arith}
use Rattle.num_tables.specs.Parts.{rows_up}
use Rattle.num_tables.proofs.Moves.{rows_up_none}
use borrow.Author.Rules.{rules}
use Rattle.calls_editor.proofs.rows_up.Goals as goal

pub returns-then-from-to : goal.returns-then-from-to
unfolding rows_up
returns-then-from-to c = search rules

pub returns-else-from-to : goal.returns-else-from-to
returns-else-from-to c = sym (rows_up_none _ _ _ _ (omega arith))
