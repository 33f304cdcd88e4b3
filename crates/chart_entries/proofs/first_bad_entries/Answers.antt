-- `chart_entries::first_bad_entries` meets its contract. Assumes nothing.
use borrow.Author.Rules.{rules}
use Rattle.chart_fields.proofs.Found.{find_is}
use Rattle.chart_entries.proofs.first_bad_entries.Goals as goal

pub returns : goal.returns
returns c = find_is _ _ _ _ _ c.find.ensures.ran (λ x b q k. (search rules, search rules))
