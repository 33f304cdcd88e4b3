-- `station::no_room` meets its contract. Assumes nothing.
use mathlib.Core.Path.{sym, ◌∙◌}
use Rattle.station.proofs.no_room.Goals as goal

pub returns-then-header_ok : goal.returns-then-header_ok
returns-then-header_ok c = simp (sym c.header_ok.ensures ∙ c.if-header_ok.true)

pub returns : goal.returns
returns c = simp (sym c.header_ok.ensures ∙ c.if-header_ok.false)
