-- `station::values_into` meets its contract. Assumes nothing.
use mathlib.Core.Path.{sym, ◌∙◌}
use mathlib.Core.List.{[]}
use Rattle.calls.specs.Calls.{refused, outcome_with, refuse}
use Rattle.station.proofs.Rooms.{into_short, into_long}
use Rattle.station.proofs.values_into.Goals as goal

pub returns-then-room-lt-VALUE_WIDTH : goal.returns-then-room-lt-VALUE_WIDTH
unfolding refuse
returns-then-room-lt-VALUE_WIDTH c = (λ i. outcome_with (refused (c.no_room.ensures i)) c.args.chart.now [] c.args.values.now) ∙ sym (into_short _ _ _ _ c.if-room-lt-VALUE_WIDTH.true)

pub returns : goal.returns
returns c = c.read_values.ensures ∙ sym (into_long _ _ _ _ c.if-room-lt-VALUE_WIDTH.false)
