-- `station::difficulty_open_as` meets its contract. Assumes nothing.
use mathlib.Core.Path.{ap, ◌∙◌}
use Rattle.station.specs.Codes.{verdict_code}
use Rattle.station.proofs.difficulty_open_as.Goals as goal

pub returns : goal.returns
returns c =
    let e = c.open_as.ensures in
    record { answer = c.verdict_code.ensures ∙ ap verdict_code e.answer; leaves = e.leaves }
