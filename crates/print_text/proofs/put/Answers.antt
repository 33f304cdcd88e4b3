-- `print_text::put` meets its contract: a store, or an offset beyond the room. Assumes nothing.
use Rattle.print_text.specs.Buffer.{behind, left_out, past}
use Rattle.print_text.specs.Buffer.{behind}
use borrow.Author.Rules.{rules}
use Rattle.print_text.proofs.put.Goals as goal

pub returns-then-at-out : goal.returns-then-at-out
unfolding behind
returns-then-at-out c = search rules

pub returns-then-at-out-2 : goal.returns-then-at-out-2
returns-then-at-out-2 c = left_out _ _ _ (search rules)

pub returns : goal.returns
returns c = past _ _ _ (search rules)
