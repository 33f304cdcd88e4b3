-- `skills_counts::any_skills::weight` meets its contract. Assumes nothing.
use Rattle.skills_counts.specs.Lists.{weight}
use Rattle.skills_counts.proofs.any_skills.weight.Goals as goal

pub returns : goal.returns
unfolding weight
returns c = simp c.exp.ensures
