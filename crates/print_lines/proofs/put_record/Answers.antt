-- `print_lines::put_record` meets its contract: the parts one after the other. Assumes nothing.
use Rattle.print_text.specs.Buffer.{then}
use Rattle.print_lines.specs.Lines.{record_text}
use Rattle.print_lines.proofs.put_record.Goals as goal

pub returns : goal.returns
unfolding record_text
returns c = then (then (then (then (then (then (c.put_decimal-place.ensures) c.put_jump-jump.ensures) c.put_travel-travel.ensures) c.put_flag-flag.ensures) c.put_f64-angle.ensures) c.put_f64-small.ensures) c.put.ensures
