-- `print_lines::put_counts` meets its contract: the parts one after the other, the seven numbers as the text of a list. Assumes nothing.
use mathlib.Core.Path.{◌∙◌}
use Rattle.print_text.specs.Text.{ascii}
use Rattle.print_text.specs.Buffer.{then}
use Rattle.print_lines.specs.Lines.{count_numbers, counts_text}
use Rattle.print_lines.proofs.Chains.{numbers_seven}
use Rattle.print_lines.proofs.put_counts.Goals as goal

pub shape_of-out : goal.shape_of-out
shape_of-out c = c.put.auto.out ∙ c.put_f64-notes.auto.out ∙ c.put_f64-difficult.auto.out ∙ c.put_f64-speed_sliders.auto.out ∙ c.put_f64-aim_sliders.auto.out ∙ c.put_f64-speed.auto.out ∙ c.put_f64-aim_no_sliders.auto.out ∙ c.put_f64-aim.auto.out ∙ c.put_all-word.auto.out

pub returns : goal.returns
unfolding counts_text count_numbers
returns c =
    let k = c.args.c in
    then (numbers_seven (ascii "counts") k.aim_difficult_strain_count k.aim_no_sliders_difficult_strain_count k.speed_difficult_strain_count k.aim_no_sliders_top_weighted_slider_count k.speed_top_weighted_slider_count k.aim_difficult_slider_count k.speed_note_count
    (then (then (then (then (then (then (then (c.put_all-word.ensures) c.put_f64-aim.ensures) c.put_f64-aim_no_sliders.ensures) c.put_f64-speed.ensures) c.put_f64-aim_sliders.ensures) c.put_f64-speed_sliders.ensures) c.put_f64-difficult.ensures) c.put_f64-notes.ensures)) c.put.ensures
