-- `skills_counts::speed::relevant_note_count` meets its contract: the first strain is joined to itself. Assumes nothing.
use Prim.Native.Nat.{ℕ}
use mathlib.Core.Path.{◌≡◌, sym, ap, ◌∙◌}
use mathlib.Core.Bool.{Bool, cond}
use mathlib.Core.List.{List}
use lib.Ieee.{Float}
use Rattle.num_floats.specs.Numbers.{zero64}
use Rattle.skills.specs.declared.Skill.TheVariants.{Speed}
use Rattle.skills_counts.specs.Chart.{object_strains}
use Rattle.skills_counts.specs.Fold.{keeps_of, strain_of}
use Rattle.skills_counts.specs.Lists.{share, total_max}
use Rattle.std.specs.List.{fold}
use Rattle.std.proofs.Common.{rules}
use Rattle.skills_counts.proofs.Lists.{adding, folds_is, few_notes, notes}
use Rattle.skills_counts.proofs.speed.relevant_note_count.Goals as goal

pub returns-then-lay-lt2 : goal.returns-then-lay-lt2
returns-then-lay-lt2 c = let a = c.args in sym (few_notes (strain_of a.chart.now a.lay a.clock a.values.now Speed) a.lay.n c.if-lay-lt2.true)

pub returns-then-max : goal.returns-then-max
unfolding keeps_of
returns-then-max c =
    let a = c.args in
    let f : ℕ → Float = strain_of a.chart.now a.lay a.clock a.values.now Speed in
    let l : List Float = object_strains a.chart.now a.lay a.clock a.values.now Speed in
    let m : c.fold-max.result ≡ fold total_max (f 1) l = folds_is _ total_max (λ to x r h. search (rules, h)) c.first_strain-first.result l _ c.fold-max.ensures ∙ ap (λ (x : Float). fold total_max x l) c.first_strain-first.ensures in
    folds_is _ (adding (λ s. share s c.fold-max.result)) (λ to x r h. search (rules, h)) zero64 l _ c.fold.ensures
    ∙ ap (λ (b : Bool). cond b (fold (adding (λ s. share s c.fold-max.result)) zero64 l) zero64) (sym c.if-max.true)
    ∙ sym (notes f a.lay.n c.if-lay-lt2.false c.fold-max.result m)

pub returns : goal.returns
unfolding keeps_of
returns c =
    let a = c.args in
    let f : ℕ → Float = strain_of a.chart.now a.lay a.clock a.values.now Speed in
    let l : List Float = object_strains a.chart.now a.lay a.clock a.values.now Speed in
    let m : c.fold-max.result ≡ fold total_max (f 1) l = folds_is _ total_max (λ to x r h. search (rules, h)) c.first_strain-first.result l _ c.fold-max.ensures ∙ ap (λ (x : Float). fold total_max x l) c.first_strain-first.ensures in
    ap (λ (b : Bool). cond b (fold (adding (λ s. share s c.fold-max.result)) zero64 l) zero64) (sym c.if-max.false)
    ∙ sym (notes f a.lay.n c.if-lay-lt2.false c.fold-max.result m)
