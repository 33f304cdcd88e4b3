-- `skills_counts::counts` meets its contract: the totals leave the scratch at 0, and the counts do not touch it. Assumes nothing.
use mathlib.Core.Path.{ap, ◌∙◌}
use Rattle.skills.specs.declared.Skills.{Skills}
use Rattle.skills_counts.specs.Counts.{counts}
use Rattle.skills_counts.specs.Chart.{counts_by}
use Rattle.skills_counts.proofs.counts.Goals as goal

pub returns : goal.returns
unfolding counts
returns c =
    let a = c.args in
    let t = c.totals-totals.ensures in
    record {
      result = c.counts_by.ensures ∙ ap (λ (by : Skills). counts_by a.chart.now a.lay a.clock a.values.now by) t.result;
      first = t.first;
      second = t.second;
      third = t.third;
      fourth = t.fourth;
    }
