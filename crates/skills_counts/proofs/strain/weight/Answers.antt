-- `skills_counts::strain::weight` meets its contract. Assumes nothing.
use Rattle.skills_counts.specs.Lists.{slider_weight}
use borrow.Author.Rules.{rules}
use Rattle.skills_counts.proofs.strain.weight.Goals as goal

pub returns : goal.returns
unfolding slider_weight
returns c = search rules
