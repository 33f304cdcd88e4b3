-- `eval_rhythm::evaluate_counted` meets its contract. Assumes nothing.
use mathlib.Core.Path.{◌∙◌}
use Rattle.osu_object.specs.Osu.{object_of}
use Rattle.eval_rhythm.proofs.Laws.{rhythm_part, comparisons_part}
use borrow.Author.Rules.{rules}
use Rattle.eval_rhythm.proofs.evaluate_counted.Goals as goal

pub returns : goal.returns
returns c =
    let a = c.args in
    let p = c.part_of-part in (
      c.counted_diff_of.ensures.0 ∙ rhythm_part (object_of a.chart.now a.lay) a.t.now a.lay.n a.j p.result _ (search rules) (search rules) p.ensures.0 p.ensures.1,
      c.counted_diff_of.ensures.1 ∙ comparisons_part (object_of a.chart.now a.lay) a.t.now a.lay.n a.j p.result _ (search rules) (search rules) p.ensures.0 p.ensures.1,
    )
