-- `print_lines::put_rule` meets its contract: the parts one after the other. Assumes nothing.
use Rattle.print_text.specs.Buffer.{then}
use Rattle.print_lines.specs.Lines.{rule_text}
use Rattle.print_lines.proofs.put_rule.Goals as goal

pub returns : goal.returns
unfolding rule_text
returns c = rw (← c.rule_digit.ensures) (then c.put-end.ensures c.put.ensures)
