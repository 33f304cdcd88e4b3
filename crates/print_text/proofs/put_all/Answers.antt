-- `print_text::put_all` meets its contract: after i turns the first i bytes are put. Assumes nothing.
use Rattle.print_text.specs.Buffer.{none}
use Rattle.print_text.proofs.Digits.{bytes_whole, byte_turn}
use Rattle.print_text.proofs.put_all.Goals as goal

pub loop-b-init : goal.loop-b-init
loop-b-init c = none _ _

pub loop-b-preserved : goal.loop-b-preserved
loop-b-preserved c = byte_turn _ _ c.loop-b-test.true c.loop-b.invariant c.put-end.ensures

pub returns : goal.returns
returns c = bytes_whole _ _ c.loop-b-test.false c.loop-b.invariant
