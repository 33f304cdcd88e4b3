-- `station::ratings_cramped` meets its contract. Assumes nothing.
use Rattle.station.specs.Codes.{ratings_cramped}
use borrow.Author.Rules.{rules}
use Rattle.station.proofs.ratings_cramped.Goals as goal

pub returns : goal.returns
unfolding ratings_cramped
returns c = search rules
