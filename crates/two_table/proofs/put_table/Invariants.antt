-- `two_table::put_table` meets its contract: before entry i the lines of T(1) to T(i) are put. Assumes nothing.
use Rattle.print_text.specs.Buffer.{Puts}
use Rattle.two_table.specs.Lines.{table_text}
use Rattle.two_table.proofs.put_table.Given as goal

abbrev pub invariant-loop-i : goal.invariant-loop-i
invariant-loop-i l = Puts (table_text l.i) l.initial.out 0 l.out l.end
