-- `print_lines::put_values` meets its contract: the parts one after the other, the five numbers as the text of the row. Assumes nothing.
use Rattle.print_text.specs.Text.{decimal_text}
use Rattle.print_text.specs.Buffer.{then}
use Rattle.eval_values.specs.Values.{row_of}
use Rattle.print_lines.specs.Lines.{place_text}
use Rattle.print_lines.proofs.Chains.{numbers_five}
use Rattle.print_lines.proofs.put_values.Goals as goal

pub returns : goal.returns
unfolding place_text row_of
returns c =
    let v = c.args.v in
    then (numbers_five (decimal_text c.args.j) v.aim v.aim_no_sliders v.speed v.rhythm v.flashlight (then (then (then (then (then (c.put_decimal-place.ensures) c.put_f64-aim.ensures) c.put_f64-aim_no_sliders.ensures) c.put_f64-speed.ensures) c.put_f64-rhythm.ensures) c.put_f64-flashlight.ensures)) c.put.ensures
