-- `print_lines::put_travel` meets its contract: the parts one after the other. Assumes nothing.
use Rattle.print_text.specs.Buffer.{then}
use Rattle.print_lines.specs.Lines.{travel_text}
use Rattle.print_lines.proofs.put_travel.Goals as goal

pub returns : goal.returns
unfolding travel_text
returns c = then (then (then (then (then (then (c.put_f64-distance.ensures) c.put_f64-time.ensures) c.put_flag-flag.ensures) c.put_f32-x.ensures) c.put_f32-y.ensures) c.put_f64-lazy.ensures) c.put_f64.ensures
