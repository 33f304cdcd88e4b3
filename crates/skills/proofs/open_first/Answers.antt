-- `skills::open_first` meets its contract. Assumes nothing.
use Rattle.skills.proofs.open_first.Goals as goal

pub returns : goal.returns
returns c = simp c.ceil.ensures
