-- `print_lines::put_refusal` meets its contract: the parts one after the other. Assumes nothing.
use Rattle.print_text.specs.Buffer.{then}
use Rattle.print_lines.specs.Lines.{refusal_text}
use Rattle.print_lines.proofs.put_refusal.Goals as goal

pub returns : goal.returns
unfolding refusal_text
returns c = rw (← c.number.ensures, ← c.place.ensures) (then (then (then (then (c.put_all-word.ensures) c.put_decimal-number.ensures) c.put-space.ensures) c.put_decimal-place.ensures) c.put.ensures)
