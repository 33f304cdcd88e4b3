-- `print_text::put_f32` meets its contract. Assumes nothing.
use Rattle.print_text.specs.Text.{f32_text}
use Rattle.print_text.proofs.put_f32.Goals as goal

pub returns : goal.returns
unfolding f32_text
returns c = rw (← c.bits.ensures.fact_1) c.put_hex32.ensures
