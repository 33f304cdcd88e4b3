-- `print_lines::put_f64` meets its contract: the parts one after the other. Assumes nothing.
use Rattle.print_text.specs.Buffer.{then}
use Rattle.print_lines.specs.Lines.{number_text}
use Rattle.print_lines.proofs.put_f64.Goals as goal

pub returns : goal.returns
unfolding number_text
returns c = then (c.put-end.ensures) c.put_f64.ensures
