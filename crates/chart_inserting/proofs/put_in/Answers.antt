-- `chart_inserting::put_in` meets its contract. Assumes nothing.
use native.Mathlib.Omega.{arith}
use Rattle.chart_inserting.proofs.Written as W
use Rattle.chart_inserting.specs.Insert.{insert_object}
use Rattle.chart_inserting.proofs.put_in.Goals as goal

pub layout_of-lay-requires : goal.layout_of-lay-requires
layout_of-lay-requires c = W.long _ c.requires.opens

pub count_at-end-requires : goal.count_at-end-requires
count_at-end-requires c = omega (arith, W.long _ c.requires.opens)

pub overflow_mul-at : goal.overflow_mul-at
overflow_mul-at c = rw c.layout_of-lay.ensures (omega (arith, W.put_fits c.requires))

pub overflow_add-at : goal.overflow_add-at
overflow_add-at c = rw c.layout_of-lay.ensures (omega (arith, W.put_fits c.requires))

pub overflow_add-at-2 : goal.overflow_add-at-2
overflow_add-at-2 c = rw c.layout_of-lay.ensures (omega (arith, W.put_fits c.requires))

pub overflow_sub-end : goal.overflow_sub-end
overflow_sub-end c = rw c.layout_of-lay.ensures (omega (arith, W.put_starts c.requires, c.count_at-end.ensures))

pub move_part-requires : goal.move_part-requires
move_part-requires c = rw c.layout_of-lay.ensures (omega (arith, W.put_fits c.requires, c.count_at-end.ensures), omega (arith, W.put_fits c.requires, c.count_at-end.ensures))

pub put-requires : goal.put-requires
put-requires c = rw c.layout_of-lay.ensures (omega (arith, W.put_fits c.requires, c.requires.long))

pub overflow_add-lay : goal.overflow_add-lay
overflow_add-lay c = rw c.layout_of-lay.ensures (omega (arith, W.put_count c.requires))

pub recount-requires : goal.recount-requires
recount-requires c = (omega (arith, W.long _ c.requires.opens), rw c.layout_of-lay.ensures (omega (arith, W.put_length c.requires)))

pub returns : goal.returns
unfolding insert_object
returns c = cc (c.recount.ensures, c.put.ensures, c.move_part.ensures, c.layout_of-lay.ensures, c.count_at-end.ensures)
