-- `eval_outer::evaluate_flashlight` meets its contract: the table shows the slice. Assumes nothing.
use mathlib.Core.Path.{◌∙◌}
use Rattle.osu_object.specs.Osu.{object_of}
use Rattle.eval_outer.proofs.Seen.{flashlight_shown}
use Rattle.eval_outer.proofs.evaluate_flashlight.Goals as goal

pub returns : goal.returns
returns c =
    let a = c.args in
    c.evaluate_diff_of.ensures
    ∙ flashlight_shown (object_of a.chart.now a.lay) c.put_window.new.t a.diff_objects.now a.j c.part_in.result c.requires.1 c.part_in.ensures.0 c.put_window.ensures a.evaluator a.hidden
