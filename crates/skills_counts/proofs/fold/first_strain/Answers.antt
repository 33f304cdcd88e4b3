-- `skills_counts::fold::first_strain` meets its contract. Assumes nothing.
use mathlib.Core.Path.{ap, ◌∙◌}
use Rattle.skills_counts.specs.declared.fold.Place.{Place}
use Rattle.skills_counts.specs.Fold.{place_next}
use Rattle.skills_counts.proofs.Folding.{first_is}
use Rattle.skills_counts.proofs.fold.first_strain.Goals as goal

pub returns : goal.returns
returns c =
    let a = c.args in
    first_is a.chart.now a.lay a.clock a.values.now a.skill c.next-first.result (c.next-first.ensures ∙ ap (λ (p : Place). place_next a.chart.now a.lay a.clock a.values.now a.skill p 1) c.place_zero-zero.ensures)
