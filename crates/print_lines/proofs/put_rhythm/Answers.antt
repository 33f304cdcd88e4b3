-- `print_lines::put_rhythm` meets its contract: the parts one after the other. Assumes nothing.
use Rattle.print_text.specs.Buffer.{then}
use Rattle.print_lines.specs.Lines.{rhythm_text}
use Rattle.print_lines.proofs.put_rhythm.Goals as goal

pub returns : goal.returns
unfolding rhythm_text
returns c = then (then (then (then c.put_decimal-place.ensures c.put_f64-value.ensures) c.put-space.ensures) c.put_decimal-comparisons.ensures) c.put.ensures
