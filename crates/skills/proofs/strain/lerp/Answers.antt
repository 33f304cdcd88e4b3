-- `skills::strain::lerp` meets its contract. Assumes nothing.
use lib.Ieee.{add}
use Rattle.skills.specs.Value.{lerp}
use borrow.Author.Rules.{rules}
use Rattle.skills.proofs.strain.lerp.Goals as goal

pub returns : goal.returns
unfolding add lerp
returns c = search rules
