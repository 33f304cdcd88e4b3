-- `station::put_aim` meets its contract. Assumes nothing.
use Rattle.station.proofs.put_aim.Goals as goal

pub returns : goal.returns
returns c = rw (← c.rule_number-2.ensures, ← c.rule_number.ensures) c.put_row.ensures
