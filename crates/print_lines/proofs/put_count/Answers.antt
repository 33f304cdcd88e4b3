-- `print_lines::put_count` meets its contract: the parts one after the other. Assumes nothing.
use Rattle.print_text.specs.Buffer.{then}
use Rattle.print_lines.specs.Lines.{count_text}
use Rattle.print_lines.proofs.put_count.Goals as goal

pub returns : goal.returns
unfolding count_text
returns c = then (then (c.put_all-word.ensures) c.put_decimal-count.ensures) c.put.ensures
