-- `skills_counts::strain::count_top_weighted_sliders` meets its contract. Assumes nothing.
use mathlib.Core.Path.{sym, ◌∙◌}
use mathlib.Core.List.{List}
use lib.Ieee.{Float}
use Rattle.std.proofs.Common.{rules}
use Rattle.num_floats.specs.Numbers.{zero64}
use Rattle.skills_counts.specs.Lists.{top_strain, slider_weight}
use Rattle.skills_counts.specs.Chart.{slider_strains}
use Rattle.skills_counts.specs.Fold.{keeps_of}
use Rattle.skills_counts.proofs.Lists.{adding, folds_is, sliders_flat, sliders_weighed}
use Rattle.skills_counts.proofs.strain.count_top_weighted_sliders.Goals as goal

pub returns-then-eq : goal.returns-then-eq
unfolding top_strain
returns-then-eq c =
    let a = c.args in
    let l : List Float = slider_strains a.chart.now a.lay a.clock a.values.now a.skill in
    sym (sliders_flat l a.difficulty_value (sym c.eq.ensures ∙ c.if-eq.true))

pub returns : goal.returns
unfolding top_strain keeps_of
returns c =
    let a = c.args in
    let l : List Float = slider_strains a.chart.now a.lay a.clock a.values.now a.skill in
    folds_is _ (adding (λ s. slider_weight s (top_strain a.difficulty_value))) (λ to x r h. search (rules, h)) zero64 l _ c.fold.ensures
    ∙ sym (sliders_weighed l a.difficulty_value (sym c.eq.ensures ∙ c.if-eq.false))
