-- `station::number_at` meets its contract. Assumes nothing.
use mathlib.Core.Path.{sym, ◌∙◌}
use Rattle.station.proofs.Rooms.{past}
use Rattle.station.proofs.number_at.Goals as goal

pub returns : goal.returns
returns c = c.nan.ensures ∙ sym (past c.args.numbers.now c.args.i c.if-i-numbers.false)
