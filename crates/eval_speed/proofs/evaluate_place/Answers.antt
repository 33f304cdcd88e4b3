-- `eval_speed::evaluate_place` meets its contract. Assumes nothing.
use mathlib.Core.Path.{◌∙◌}
use Rattle.osu_object.specs.Osu.{object_of}
use Rattle.eval_speed.proofs.Laws.{speed_part}
use borrow.Author.Rules.{rules}
use Rattle.eval_speed.proofs.evaluate_place.Goals as goal

pub returns : goal.returns
returns c =
    let a = c.args in
    c.evaluate_diff_of.ensures ∙ speed_part (object_of a.chart.now a.lay) a.t.now a.lay.n a.j c.part_of-part.result _ _ (search rules) (search rules) c.part_of-part.ensures.0 c.part_of-part.ensures.1
