-- `print_text::put_digits` meets its contract: while `left` digits are to come, those of v shifted right by as many are put. Assumes nothing.
use Prim.Native.Nat.{◌-◌, ◌*◌, ◌/◌, ◌^◌}
use Rattle.print_text.specs.Text.{hex_text}
use Rattle.print_text.specs.Buffer.{Puts}
use Rattle.print_text.proofs.put_digits.Given as goal

abbrev pub invariant-loop-left : goal.invariant-loop-left
invariant-loop-left l = Puts (hex_text (l.n - l.left) (l.v / 2 ^ (l.left * 4))) l.initial.out l.at l.out l.end
