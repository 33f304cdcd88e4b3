-- `station::values_into_as` meets its contract. Assumes nothing.
use mathlib.Core.Path.{sym, ◌∙◌}
use Rattle.calls.specs.Calls.{refuse}
use Rattle.station.proofs.Rooms.{into_short_as, into_long_as}
use Rattle.station.proofs.values_into_as.Goals as goal

pub returns-then-room-lt-VALUE_WIDTH : goal.returns-then-room-lt-VALUE_WIDTH
unfolding refuse
returns-then-room-lt-VALUE_WIDTH c = sym (into_short_as _ _ _ _ _ c.if-room-lt-VALUE_WIDTH.true _ c.no_room_as.ensures)

pub returns : goal.returns
returns c = c.read_values_as.ensures ∙ sym (into_long_as _ _ _ _ _ c.if-room-lt-VALUE_WIDTH.false)
