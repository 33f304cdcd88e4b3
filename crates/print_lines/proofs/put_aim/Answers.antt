-- `print_lines::put_aim` meets its contract: the parts one after the other. Assumes nothing.
use Rattle.print_text.specs.Buffer.{then}
use Rattle.print_lines.specs.Lines.{aim_text}
use Rattle.print_lines.proofs.put_aim.Goals as goal

pub returns : goal.returns
unfolding aim_text
returns c = then (then (then c.put_decimal-place.ensures c.put_parts-with.ensures) c.put_parts-without.ensures) c.put.ensures
