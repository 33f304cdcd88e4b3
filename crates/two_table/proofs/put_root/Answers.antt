-- `two_table::put_root` meets its contract. Assumes nothing.
use Rattle.print_text.specs.Buffer.{then}
use Rattle.two_table.specs.Lines.{root_text}
use Rattle.two_table.proofs.put_root.Goals as goal

pub returns : goal.returns
unfolding root_text
returns c = then (then (then c.put_decimal-number.ensures c.put-space.ensures) c.put_hex64-digits.ensures) c.put.ensures
