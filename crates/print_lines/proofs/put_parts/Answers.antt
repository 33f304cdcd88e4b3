-- `print_lines::put_parts` meets its contract: the parts one after the other. Assumes nothing.
use Rattle.print_text.specs.Buffer.{then}
use Rattle.print_lines.specs.Lines.{parts_text}
use Rattle.print_lines.proofs.put_parts.Goals as goal

pub returns : goal.returns
unfolding parts_text
returns c = then (then (then (then c.put_f64-whole.ensures c.put_f64-curr_vel.ensures) c.put_f64-prev_vel.ensures) c.put_bonuses-bonuses.ensures) c.put_rule.ensures
