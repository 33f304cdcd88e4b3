-- `skills_counts::any_skills::count_top_weighted_strains` meets its contract. Assumes nothing.
use native.Mathlib.Omega.{arith}
use Prim.Native.Nat.{ℕ, ◌-◌, ◌<◌}
use mathlib.Core.Path.{◌≡◌, sym, ap, ◌∙◌}
use mathlib.Core.List.{List}
use lib.IntN.{pos}
use Rattle.std.proofs.Common.{rules}
use Rattle.num_floats.specs.Numbers.{zero64}
use lib.ListN.{length}
use lib.Ieee as Ieee
use lib.Ieee.{Float, binary64}
use Rattle.skills_counts.specs.Lists.{top_strain, weight}
use Rattle.skills_counts.specs.Chart.{object_strains}
use Rattle.skills_counts.specs.Fold.{keeps_of, strain_of}
use Rattle.skills_counts.proofs.Lists.{adding, folds_is, strains_flat, strains_weighed, length-all, few_strains}
use Rattle.skills_counts.proofs.any_skills.count_top_weighted_strains.Goals as goal

pub returns-then-lay-lt2 : goal.returns-then-lay-lt2
returns-then-lay-lt2 c =
    let a = c.args in
    sym (few_strains (strain_of a.chart.now a.lay a.clock a.values.now a.skill) a.lay.n a.difficulty_value c.if-lay-lt2.true)

pub returns-then-eq : goal.returns-then-eq
unfolding top_strain
returns-then-eq c =
    let a = c.args in
    let l : List Float = object_strains a.chart.now a.lay a.clock a.values.now a.skill in
    let e : length l ≡ a.lay.n - 1 = length-all (strain_of a.chart.now a.lay a.clock a.values.now a.skill) 1 (a.lay.n - 1) in
    let h : 0 < length l = omega (arith, e, c.if-lay-lt2.false) in
    sym (strains_flat l a.difficulty_value h (sym c.eq.ensures ∙ c.if-eq.true) ∙ ap (λ (i : ℕ). Ieee.of_int binary64 (pos i)) e)

pub returns : goal.returns
unfolding top_strain keeps_of
returns c =
    let a = c.args in
    let l : List Float = object_strains a.chart.now a.lay a.clock a.values.now a.skill in
    folds_is _ (adding (λ s. weight s (top_strain a.difficulty_value))) (λ to x r h. search (rules, h)) zero64 l _ c.fold.ensures
    ∙ sym (strains_weighed l a.difficulty_value (sym c.eq.ensures ∙ c.if-eq.false))
