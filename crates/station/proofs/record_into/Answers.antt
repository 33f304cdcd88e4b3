-- `station::record_into` meets its contract. Assumes nothing.
use mathlib.Core.Path.{sym, ◌∙◌}
use mathlib.Core.List.{[]}
use Rattle.calls.specs.Calls.{refused, outcome_with, refuse}
use Rattle.station.proofs.Rooms.{into_short, into_long}
use Rattle.station.proofs.record_into.Goals as goal

pub returns-then-room-lt-RECORD_WIDTH : goal.returns-then-room-lt-RECORD_WIDTH
unfolding refuse
returns-then-room-lt-RECORD_WIDTH c = (λ i. outcome_with (refused (c.no_room.ensures i)) c.args.chart.now c.args.records.now []) ∙ sym (into_short _ _ _ _ c.if-room-lt-RECORD_WIDTH.true)

pub returns : goal.returns
returns c = c.read_record.ensures ∙ sym (into_long _ _ _ _ c.if-room-lt-RECORD_WIDTH.false)
