-- `skills_counts::fold::next` meets its contract. Assumes nothing.
use Rattle.skills_counts.proofs.fold.next.Goals as goal

pub returns : goal.returns
returns c = simp (c.strain_value_at-strain.ensures, c.current_strain-current.ensures, c.raw_start-start.ensures)
