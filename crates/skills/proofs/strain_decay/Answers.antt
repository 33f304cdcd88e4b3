-- `skills::strain_decay` meets its contract. Assumes nothing.
use Rattle.skills.specs.Strains.{strain_decay}
use borrow.Author.Rules.{rules}
use Rattle.skills.proofs.strain_decay.Goals as goal

pub returns : goal.returns
unfolding strain_decay
returns c = search rules
