-- `skills::strain::sum` meets its contract. Assumes nothing.
use Rattle.std.proofs.Common.{rules, ◌∙◌}
use Rattle.std.proofs.lemmas.Iterator.{YieldsList-from_slice}
use Rattle.std.proofs.lemmas.Iterator.Consumers.{fold_from_yields_List}
use Rattle.num_floats.specs.Numbers.{◌⊕◌, zero64}
use Rattle.skills.proofs.Sums.{sum_is}
use Rattle.skills.proofs.strain.sum.Goals as goal

pub returns : goal.returns
returns c =
    fold_from_yields_List _ ◌⊕◌ zero64 c.fold.result c.fold.ensures.ran (YieldsList-from_slice c.args.a.now (search rules)) (λ a x b q k. search rules)
    ∙ sum_is zero64 c.args.a.now
