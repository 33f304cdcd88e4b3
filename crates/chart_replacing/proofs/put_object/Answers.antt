-- `chart_replacing::put_object` meets its contract: the place lies in the chart, and the object has its length. Assumes nothing.
use native.Mathlib.Omega.{arith}
use Rattle.chart_opening.proofs.Header.{parts}
use Rattle.chart_opening.specs.Accepted.{header_ok_lem}
use Rattle.chart_replacing.specs.Replace.{put_object}
use Rattle.chart_replacing.specs.Accepted.{place_fits}
use Rattle.chart_replacing.proofs.put_object.Goals as goal

pub layout_of-lay-requires : goal.layout_of-lay-requires
layout_of-lay-requires c = (parts _ (header_ok_lem _ c.requires.opens)).long

pub overflow_mul-lay : goal.overflow_mul-lay
overflow_mul-lay c = rw c.layout_of-lay.ensures (omega (arith, place_fits c.requires))

pub overflow_add-lay : goal.overflow_add-lay
overflow_add-lay c = rw c.layout_of-lay.ensures (omega (arith, place_fits c.requires))

pub put-requires : goal.put-requires
put-requires c = rw c.layout_of-lay.ensures (place_fits c.requires)

pub returns : goal.returns
unfolding put_object
returns c = rw (← c.layout_of-lay.ensures) c.put.ensures
