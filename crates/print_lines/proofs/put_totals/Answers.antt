-- `print_lines::put_totals` meets its contract: the parts one after the other. Assumes nothing.
use Rattle.print_text.specs.Buffer.{then}
use Rattle.print_lines.specs.Lines.{totals_text}
use Rattle.print_lines.proofs.put_totals.Goals as goal

pub returns : goal.returns
unfolding totals_text
returns c = then (c.put_all-word.ensures) c.put_skills.ensures
