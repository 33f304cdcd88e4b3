-- `station::difficulty_insert_both` meets its contract. Assumes nothing.
use mathlib.Core.Path.{ap, ◌∙◌}
use Rattle.station.specs.Codes.{verdict_code}
use Rattle.station.proofs.difficulty_insert_both.Goals as goal

pub returns : goal.returns
returns c =
    let e = c.insert_both.ensures in
    record { answer = c.verdict_code.ensures ∙ ap verdict_code e.answer; leaves = e.leaves }
