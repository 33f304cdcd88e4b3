-- `skills_counts::aim::get_difficult_sliders` meets its contract. Assumes nothing.
use Rattle.std.proofs.Common.{◌≡◌, List, sym, ap, ◌∙◌, rules}
use Rattle.std.specs.Prelude.{Float}
use Rattle.std.specs.List.{fold}
use Rattle.num_floats.specs.Compare.{max_of}
use Rattle.num_floats.specs.Numbers.{zero64}
use Rattle.num_util.specs.FloatExt.{eq}
use Rattle.skills.specs.declared.Skill.TheVariants.{Aim}
use Rattle.skills_counts.specs.Lists.{max_from, share}
use Rattle.skills_counts.specs.Chart.{slider_strains}
use Rattle.skills_counts.specs.Fold.{keeps_of}
use Rattle.skills_counts.proofs.Lists.{adding, folds_is, largest, none_difficult, difficult_shares}
use Rattle.skills_counts.proofs.aim.get_difficult_sliders.Goals as goal

pub returns-then-eq : goal.returns-then-eq
unfolding keeps_of
returns-then-eq c =
    let a = c.args in
    let l : List Float = slider_strains a.chart.now a.lay a.clock a.values.now Aim in
    let m : c.fold-max.result ≡ max_from zero64 l = folds_is _ max_of (λ to x r h. search (rules, h)) zero64 l _ c.fold-max.ensures ∙ largest zero64 l in
    sym (none_difficult l (ap (λ (x : Float). eq x zero64) (sym m) ∙ sym c.eq.ensures ∙ c.if-eq.true))

pub returns : goal.returns
unfolding keeps_of
returns c =
    let a = c.args in
    let l : List Float = slider_strains a.chart.now a.lay a.clock a.values.now Aim in
    let m : c.fold-max.result ≡ max_from zero64 l = folds_is _ max_of (λ to x r h. search (rules, h)) zero64 l _ c.fold-max.ensures ∙ largest zero64 l in
    folds_is _ (adding (λ s. share s c.fold-max.result)) (λ to x r h. search (rules, h)) zero64 l _ c.fold.ensures
    ∙ ap (λ (x : Float). fold (adding (λ s. share s x)) zero64 l) m
    ∙ sym (difficult_shares l (ap (λ (x : Float). eq x zero64) (sym m) ∙ sym c.eq.ensures ∙ c.if-eq.false))
