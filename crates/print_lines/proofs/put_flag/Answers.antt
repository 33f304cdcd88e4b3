-- `print_lines::put_flag` meets its contract: the parts one after the other. Assumes nothing.
use Rattle.print_text.specs.Buffer.{then, same_text}
use Rattle.print_lines.specs.Lines.{flag_text}
use Rattle.print_lines.proofs.put_flag.Goals as goal

pub returns-then-flag : goal.returns-then-flag
unfolding flag_text
returns-then-flag c = same_text (simp c.if-flag.true) (then (c.put-end.ensures) c.put.ensures)

pub returns : goal.returns
unfolding flag_text
returns c = same_text (simp c.if-flag.false) (then (c.put-end.ensures) c.put-2.ensures)
