-- `print_lines::put_bonuses` meets its contract: the parts one after the other. Assumes nothing.
use Rattle.print_text.specs.Buffer.{then}
use Rattle.print_lines.specs.Lines.{bonuses_text}
use Rattle.print_lines.proofs.put_bonuses.Goals as goal

pub returns : goal.returns
unfolding bonuses_text
returns c = then (then (then (then c.put_f64-wide.ensures c.put_f64-acute.ensures) c.put_f64-wiggle.ensures) c.put_f64-vel_change.ensures) c.put_f64.ensures
