-- `skills_rating::mods::scaled_if` meets its contract. Assumes nothing.
use Rattle.skills_rating.specs.Rating.{scaled_if}
use borrow.Author.Rules.{rules}
use Rattle.skills_rating.proofs.mods.scaled_if.Goals as goal

pub returns-then-on : goal.returns-then-on
unfolding scaled_if
returns-then-on c = simp c.if-on.true

pub returns-else-on : goal.returns-else-on
unfolding scaled_if
returns-else-on c = search rules
