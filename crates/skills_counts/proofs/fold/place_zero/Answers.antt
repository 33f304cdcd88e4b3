-- `skills_counts::fold::place_zero` meets its contract. Assumes nothing.
use Rattle.skills_counts.proofs.fold.place_zero.Goals as goal

pub returns : goal.returns
returns c = simp c.raw_start.ensures
