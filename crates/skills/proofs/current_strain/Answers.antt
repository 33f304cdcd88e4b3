-- `skills::current_strain` meets its contract. Assumes nothing.
use Rattle.skills.specs.Strains.{strain_next}
use Rattle.skills.proofs.current_strain.Goals as goal

pub returns : goal.returns
unfolding strain_next
returns c = simp (c.decayed_strain.ensures, c.decay.ensures)
