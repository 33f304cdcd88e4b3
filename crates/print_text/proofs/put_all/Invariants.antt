-- `print_text::put_all` meets its contract: after i turns the first i bytes are put. Assumes nothing.
use lib.ListN.{take}
use Rattle.print_text.specs.Buffer.{Puts}
use Rattle.print_text.proofs.put_all.Given as goal

abbrev pub invariant-loop-b : goal.invariant-loop-b
invariant-loop-b l = Puts (take l.b-index l.s) l.initial.out l.at l.out l.end
