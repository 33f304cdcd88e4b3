-- `station::difficulty_join` meets its contract. Assumes nothing.
use mathlib.Core.Path.{ap, ◌∙◌}
use lib.Dec.{ltb}
use lib.ListN.{length}
use Rattle.calls_figures.specs.Answers.{scratch_of}
use Rattle.pack.specs.Pack.{tables, buffers}
use Rattle.station.specs.Codes.{verdict_code, numbers_width, rank_verdict_into, rank_into}
use Rattle.station.proofs.difficulty_join.Goals as goal

pub returns : goal.returns
returns c =
    let a = c.args in
    let x = (buffers a.list.now (tables a.records.now a.values.now) (scratch_of a.aim.now a.aim_no_sliders.now a.speed.now a.flashlight.now)) in
    let e = c.join_into.ensures in
    let k = c.asked_of-asked.ensures in
    let few = ltb (length a.numbers.now) numbers_width in record {
      answer = c.verdict_code.ensures ∙ ap verdict_code (e.answer ∙ (λ i. rank_verdict_into (k i) few a.pack.now x));
      leaves = e.leaves ∙ (λ i. rank_into (k i) few a.pack.now x);
    }
