-- `skills_counts::speed::total_max` meets its contract. Assumes nothing.
use borrow.Author.Tests.{le-ltb}
use Rattle.skills_counts.specs.Lists.{total_max}
use borrow.Author.Tests.{lt-ltb}
use Rattle.skills_counts.proofs.speed.total_max.Goals as goal

pub returns-then-total_key : goal.returns-then-total_key
unfolding total_max
returns-then-total_key c = simp (lt-ltb _ _ c.if-total_key.true, ← c.total_key-2.ensures, ← c.total_key.ensures)

pub returns-else-total_key : goal.returns-else-total_key
unfolding total_max
returns-else-total_key c = simp (le-ltb _ _ c.if-total_key.false, ← c.total_key-2.ensures, ← c.total_key.ensures)
