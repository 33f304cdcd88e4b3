-- `skills_rating::above` meets its contract. Assumes nothing.
use borrow.Author.Tests.{le-ltb}
use Rattle.skills_rating.specs.Rating.{above}
use borrow.Author.Tests.{lt-ltb}
use Rattle.skills_rating.proofs.above.Goals as goal

pub returns-then-most-total_hits : goal.returns-then-most-total_hits
unfolding above
returns-then-most-total_hits c = simp (lt-ltb _ _ c.if-most-total_hits.true)

pub returns-else-most-total_hits : goal.returns-else-most-total_hits
unfolding above
returns-else-most-total_hits c = simp (le-ltb _ _ c.if-most-total_hits.false)
