-- `chart_inserting::take_out` meets its contract. Assumes nothing.
use native.Mathlib.Omega.{arith}
use Rattle.chart_inserting.proofs.Written as W
use Rattle.chart_inserting.specs.Insert.{remove_object}
use Rattle.chart_inserting.proofs.take_out.Goals as goal

pub layout_of-lay-requires : goal.layout_of-lay-requires
layout_of-lay-requires c = W.long _ c.requires.opens

pub count_at-end-requires : goal.count_at-end-requires
count_at-end-requires c = omega (arith, W.long _ c.requires.opens)

pub overflow_mul-at : goal.overflow_mul-at
overflow_mul-at c = rw c.layout_of-lay.ensures (omega (arith, W.take_fits c.requires))

pub overflow_add-at : goal.overflow_add-at
overflow_add-at c = rw c.layout_of-lay.ensures (omega (arith, W.take_fits c.requires))

pub overflow_add-next : goal.overflow_add-next
overflow_add-next c = rw c.layout_of-lay.ensures (omega (arith, W.take_fits c.requires))

pub overflow_sub-end : goal.overflow_sub-end
overflow_sub-end c = rw c.layout_of-lay.ensures (omega (arith, W.take_ends c.requires, c.count_at-end.ensures))

pub move_part-requires : goal.move_part-requires
move_part-requires c = rw c.layout_of-lay.ensures (omega (arith, W.take_fits c.requires, c.count_at-end.ensures), omega (arith, W.take_fits c.requires, W.take_ends c.requires, c.count_at-end.ensures))

pub overflow_sub-lay : goal.overflow_sub-lay
overflow_sub-lay c = rw c.layout_of-lay.ensures (omega (arith, c.requires.below))

pub recount-requires : goal.recount-requires
recount-requires c = (omega (arith, W.long _ c.requires.opens), rw c.layout_of-lay.ensures (omega (arith, W.take-length c.requires)))

pub returns : goal.returns
unfolding remove_object
returns c = cc (c.recount.ensures, c.move_part.ensures, c.layout_of-lay.ensures, c.count_at-end.ensures)
