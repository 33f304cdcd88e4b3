-- `print_lines::put_jump` meets its contract: six numbers, as the text of a list. Assumes nothing.
use Rattle.print_text.specs.Buffer.{then}
use Rattle.print_lines.specs.Lines.{jump_text}
use Rattle.print_lines.proofs.Chains.{numbers_six}
use Rattle.print_lines.proofs.put_jump.Goals as goal

pub returns : goal.returns
unfolding jump_text
returns c = numbers_six _ _ _ _ _ _ (then (then (then (then (then (c.put_f64-start.ensures) c.put_f64-delta.ensures) c.put_f64-adjusted.ensures) c.put_f64-jump.ensures) c.put_f64-least.ensures) c.put_f64.ensures)
