-- `skills_counts::speed::total_key` meets its contract. Assumes nothing.
use Rattle.skills_counts.specs.Lists.{total_key}
use borrow.Author.Tests.{lt-ltb, le-ltb}
use Rattle.skills_counts.proofs.speed.total_key.Goals as goal

pub returns-then-b-lt-SIGN : goal.returns-then-b-lt-SIGN
unfolding total_key
returns-then-b-lt-SIGN c = simp (← c.bits-b.ensures.fact_1, lt-ltb _ _ c.if-b-lt-SIGN.true)

pub returns : goal.returns
unfolding total_key
returns c = simp (← c.bits-b.ensures.fact_1, le-ltb _ _ c.if-b-lt-SIGN.false)
