-- `osu_records::fill_range` meets its contract: the objects at j - 1 and j - 2 are kept from the turns before. Assumes nothing.
use borrow.Author.Rules.{rules}
use Rattle.osu_records.proofs.Filling.{begin, turn, done, nothing, room}
use Rattle.osu_records.proofs.fill_range.Goals as goal

pub returns-then-to-from : goal.returns-then-to-from
returns-then-to-from c = nothing _ _ _ _ _ _ c.if-to-from.true

pub loop-j-init : goal.loop-j-init
loop-j-init c = begin _ _ _ _ _ _ _ _ c.requires.1 (search rules) c.placed_at-last.ensures c.two_before-last_last.ensures

pub put_record-requires : goal.put_record-requires
put_record-requires c = room _ _ _ _ _ c.loop-j-test.true c.requires.2 c.requires.0.holds.few c.requires.3 c.loop-j.invariant.len

pub loop-j-preserved : goal.loop-j-preserved
loop-j-preserved c = turn _ _ _ c.loop-j.invariant c.loop-j-test.true (room _ _ _ _ _ c.loop-j-test.true c.requires.2 c.requires.0.holds.few c.requires.3 c.loop-j.invariant.len).1 _ _ _ c.placed_at-o.ensures c.new.ensures c.put_record.ensures

pub shape_of-t : goal.shape_of-t
shape_of-t c = c.loop-j.invariant.len

pub returns : goal.returns
returns c = done _ _ _ c.loop-j.invariant c.loop-j-test.false
