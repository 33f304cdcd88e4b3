-- `osu_difficulty_object::cursor::tracking_of` meets its contract. Assumes nothing.
use borrow.Author.Rules.{rules}
use Rattle.osu_object.proofs.Lists.{length_list}
use Rattle.osu_difficulty_object.proofs.Walk.{tracked_none, tracked_moved, tracked_kept}
use Rattle.osu_difficulty_object.proofs.cursor.tracking_of.Goals as goal

pub returns-in-None : goal.returns-in-None
returns-in-None c = (tracked_none _ _ _ (length_list _ _ _) c.in-None.ensures, search rules)

pub returns-then-end_time-t : goal.returns-then-end_time-t
returns-then-end_time-t c = (tracked_moved _ _ _ (length_list _ _ _) _ c.in-Some.ensures.0 _ c.nested-end_time.ensures c.if-end_time-t.true, search rules)

pub returns-else-end_time-t : goal.returns-else-end_time-t
returns-else-end_time-t c = (tracked_kept _ _ _ (length_list _ _ _) _ c.in-Some.ensures.0 _ c.nested-end_time.ensures c.if-end_time-t.false, search rules)
