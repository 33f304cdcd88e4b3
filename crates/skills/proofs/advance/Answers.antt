-- `skills::advance` meets its contract. Assumes nothing.
use mathlib.Core.Path.{sym, ap, subst, ◌∙◌}
use Prim.Native.Nat.{◌≤◌}
use Rattle.skills.specs.declared.Sections.{Sections}
use Rattle.skills.specs.Strains.{room, join}
use Rattle.skills.specs.Shown.{shown}
use Rattle.skills.proofs.advance.Goals as goal

pub returns : goal.returns
returns c =
    let cl = c.close_sections-closed in
    record {
      within = subst (λ (w : Sections). w.count ≤ room) (sym c.join-sections.ensures) cl.ensures.0;
      current_is = c.decayed_strain-current.ensures;
      strain_is = c.strain_value_at-strain.ensures;
      shows = ap (shown cl.new.peaks) c.join-sections.ensures ∙ ap (join c.strain_value_at-strain.result) cl.ensures.1;
    }
