-- `skills::strain::value_of_positive` meets its contract. Assumes nothing.
use Rattle.skills.specs.Value.{weighted, reduced}
use Rattle.num_sort.specs.Sort.{sort_desc}
use Rattle.num_floats.specs.Numbers.{zero64, one64}
use mathlib.Core.Path.{ap, ◌∙◌}
use Rattle.skills.proofs.strain.value_of_positive.Goals as goal

pub returns : goal.returns
returns c =
    c.weighted_sum.ensures
    ∙ ap (weighted zero64 one64)
    (c.insertion_sort.ensures ∙ ap sort_desc (c.reduce.ensures ∙ ap (reduced c.args.count 0) c.merge_sort.ensures))
