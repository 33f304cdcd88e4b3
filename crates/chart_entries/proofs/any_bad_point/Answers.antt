-- `chart_entries::any_bad_point` meets its contract. Assumes nothing.
use borrow.Author.Rules.{rules}
use Rattle.chart_fields.proofs.Found.{any_is}
use Rattle.chart_entries.proofs.any_bad_point.Goals as goal

pub returns : goal.returns
returns c = any_is _ _ _ _ _ c.any.ensures.ran (λ x b q k. (search rules, search rules))
