-- `print_text::put_f64` meets its contract. Assumes nothing.
use Rattle.print_text.specs.Text.{f64_text}
use Rattle.print_text.proofs.put_f64.Goals as goal

pub returns : goal.returns
unfolding f64_text
returns c = rw (← c.bits.ensures.fact_1) c.put_hex64.ensures
