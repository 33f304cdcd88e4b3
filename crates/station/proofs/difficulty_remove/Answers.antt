-- `station::difficulty_remove` meets its contract. Assumes nothing.
use mathlib.Core.Path.{ap, ◌∙◌}
use Rattle.calls.specs.Calls.{Outcome}
use Rattle.station.specs.Codes.{answer_code}
use Rattle.station.proofs.Told.{remove_code}
use Rattle.station.proofs.difficulty_remove.Goals as goal

pub returns : goal.returns
returns c =
    let e = c.remove.ensures in
    record {
      answer = c.verdict_code.ensures ∙ remove_code _ ∙ ap (λ (x : Outcome). answer_code x.answer) e;
      leaves = ap (λ (x : Outcome). x.leaves) e;
    }
