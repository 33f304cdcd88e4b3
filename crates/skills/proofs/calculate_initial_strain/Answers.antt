-- `skills::calculate_initial_strain` meets its contract. Assumes nothing.
use Rattle.skills.specs.Strains.{initial_strain}
use Rattle.skills.proofs.calculate_initial_strain.Goals as goal

pub returns : goal.returns
unfolding initial_strain
returns c = simp (c.strain_decay.ensures, c.strain_decay_base.ensures)
