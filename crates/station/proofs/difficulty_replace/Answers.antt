-- `station::difficulty_replace` meets its contract. Assumes nothing.
use mathlib.Core.Path.{ap, ◌∙◌}
use Rattle.calls.specs.Calls.{Outcome}
use Rattle.station.specs.Codes.{answer_code}
use Rattle.station.proofs.Told.{replace_code}
use Rattle.station.proofs.difficulty_replace.Goals as goal

pub returns : goal.returns
returns c =
    let e = c.replace.ensures in
    record {
      answer = c.verdict_code.ensures ∙ replace_code _ ∙ ap (λ (x : Outcome). answer_code x.answer) e;
      leaves = ap (λ (x : Outcome). x.leaves) e;
    }
