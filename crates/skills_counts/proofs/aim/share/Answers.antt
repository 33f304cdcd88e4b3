-- `skills_counts::aim::share` meets its contract. Assumes nothing.
use Rattle.skills_counts.specs.Lists.{share}
use Rattle.skills_counts.proofs.aim.share.Goals as goal

pub returns : goal.returns
unfolding share
returns c = simp c.exp.ensures
