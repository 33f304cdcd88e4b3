-- `skills::join` meets its contract. Assumes nothing.
use Rattle.skills.proofs.join.Goals as goal

pub returns : goal.returns
returns c = simp c.max.ensures
