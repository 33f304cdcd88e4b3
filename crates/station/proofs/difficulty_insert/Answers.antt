-- `station::difficulty_insert` meets its contract. Assumes nothing.
use mathlib.Core.Path.{ap, ◌∙◌}
use Rattle.calls.specs.Calls.{Outcome}
use Rattle.station.specs.Codes.{answer_code}
use Rattle.station.proofs.Told.{insert_code}
use Rattle.station.proofs.difficulty_insert.Goals as goal

pub returns : goal.returns
returns c =
    let e = c.insert.ensures in
    record {
      answer = c.verdict_code.ensures ∙ insert_code _ ∙ ap (λ (x : Outcome). answer_code x.answer) e;
      leaves = ap (λ (x : Outcome). x.leaves) e;
    }
