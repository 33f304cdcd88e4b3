-- `chart_inserting::no_room` meets its contract. Assumes nothing.
use mathlib.Core.Path.{ap}
use native.Mathlib.Omega.{arith}
use Rattle.chart_inserting.specs.Insert.{no_room}
use Rattle.chart_fields.specs.declared.Layout.{Layout}
use Rattle.chart_inserting.proofs.Written.{end_small}
use Rattle.chart_opening.proofs.Header.{parts, holds}
use Rattle.chart_inserting.proofs.no_room.Goals as goal

pub count_at-requires : goal.count_at-requires
count_at-requires c = omega (arith, (parts _ c.requires.1).long)

pub overflow_add-result : goal.overflow_add-result
overflow_add-result c = omega (arith, (holds _ c.requires.1).size_most, ap (λ (l : Layout). l.object_size) c.requires.0, c.count_at.ensures, end_small _ c.requires.1)

pub returns : goal.returns
unfolding no_room
returns c = simp (← c.requires.0, c.count_at.ensures)
