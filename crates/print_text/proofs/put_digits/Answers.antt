-- `print_text::put_digits` meets its contract: while `left` digits are to come, those of v shifted right by as many are put. Assumes nothing.
use Rattle.print_text.proofs.Digits.{hex_none, hex_whole, hex_turn}
use Rattle.print_text.proofs.put_digits.Goals as goal

pub loop-left-init : goal.loop-left-init
loop-left-init c = hex_none _ _ _ _

pub loop-left-preserved : goal.loop-left-preserved
loop-left-preserved c = hex_turn _ _ _ _ c.loop-left-test.true c.loop-left.auto.left c.digit.ensures c.loop-left.invariant c.put-end.ensures

pub returns : goal.returns
returns c = hex_whole _ _ _ c.loop-left-test.false c.loop-left.invariant
