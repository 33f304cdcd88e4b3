-- `print_lines::put_f32` meets its contract: the parts one after the other. Assumes nothing.
use Rattle.print_text.specs.Buffer.{then}
use Rattle.print_lines.specs.Lines.{narrow_text}
use Rattle.print_lines.proofs.put_f32.Goals as goal

pub returns : goal.returns
unfolding narrow_text
returns c = then (c.put-end.ensures) c.put_f32.ensures
