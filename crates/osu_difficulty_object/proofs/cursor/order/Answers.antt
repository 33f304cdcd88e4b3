-- `osu_difficulty_object::cursor::order` meets its contract. Assumes nothing.
use borrow.Author.Tests.{lt-ltb, le-ltb}
use Rattle.osu_difficulty_object.specs.Cursor.{order_of}
use borrow.Author.Rules.{rules}
use Rattle.osu_difficulty_object.proofs.cursor.order.Goals as goal

pub returns-then-k-moved : goal.returns-then-k-moved
unfolding order_of
returns-then-k-moved c = (simp (lt-ltb _ _ c.if-k-moved.true), search rules)

pub returns-then-k-count : goal.returns-then-k-count
unfolding order_of
returns-then-k-count c = (simp (le-ltb _ _ c.if-k-moved.false, lt-ltb _ _ c.if-k-count.true), search rules)

pub returns : goal.returns
unfolding order_of
returns c = (simp (le-ltb _ _ c.if-k-moved.false, le-ltb _ _ c.if-k-count.false), search rules)
