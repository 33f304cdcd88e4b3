-- `eval_outer::evaluate_speed` meets its contract: the table shows the slice. Assumes nothing.
use mathlib.Core.Path.{◌∙◌}
use Rattle.osu_object.specs.Osu.{object_of}
use Rattle.eval_outer.proofs.Seen.{speed_shown}
use Rattle.eval_outer.proofs.evaluate_speed.Goals as goal

pub returns : goal.returns
returns c =
    let a = c.args in
    c.evaluate_diff_of.ensures
    ∙ speed_shown (object_of a.chart.now a.lay) c.put_window.new.t a.diff_objects.now a.j c.part_in-part.result c.requires.1 c.part_in-part.ensures.0 c.put_window.ensures c.part_in-part.ensures.1 a.hit_window a.autopilot
