-- `print_lines::put_skills` meets its contract: the parts one after the other, the four numbers as the text of a list. Assumes nothing.
use Rattle.print_text.specs.Buffer.{then}
use Rattle.print_lines.specs.Lines.{skills_text}
use Rattle.print_lines.proofs.Chains.{numbers_four}
use Rattle.print_lines.proofs.put_skills.Goals as goal

pub returns : goal.returns
unfolding skills_text
returns c = then (numbers_four _ _ _ _ (then (then (then (c.put_f64-aim.ensures) c.put_f64-aim_no_sliders.ensures) c.put_f64-speed.ensures) c.put_f64-flashlight.ensures)) c.put.ensures
