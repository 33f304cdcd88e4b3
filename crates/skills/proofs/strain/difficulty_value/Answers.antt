-- `skills::strain::difficulty_value` meets its contract. Assumes nothing.
use Rattle.std.proofs.Common.{ap, ◌∙◌, length-take, arith}
use Rattle.skills.proofs.Keeping.{clear_positives}
use Rattle.skills.specs.Value.{positive_value, difficulty_value}
use Rattle.skills.proofs.strain.difficulty_value.Goals as goal

pub value_of_positive-requires : goal.value_of_positive-requires
value_of_positive-requires c =
    let k = c.keep_positive-kept in
    (rw k.ensures.1 (clear_positives c.args.peaks.now), omega (arith, length-take k.result k.new.a, k.auto.a, c.requires.0), c.requires.1)

pub returns : goal.returns
unfolding difficulty_value
returns c = c.value_of_positive.ensures ∙ ap (positive_value c.args.count) c.keep_positive-kept.ensures.1
