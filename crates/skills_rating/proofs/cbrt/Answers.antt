-- `skills_rating::cbrt` meets its contract. Assumes nothing.
use Rattle.skills_rating.specs.Rating.{cbrt_of}
use borrow.Author.Rules.{rules}
use Rattle.skills_rating.proofs.cbrt.Goals as goal

pub returns : goal.returns
unfolding cbrt_of
returns c = search rules
