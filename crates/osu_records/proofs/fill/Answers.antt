-- `osu_records::fill` meets its contract. Assumes nothing.
use Rattle.osu_records.specs.Fill.{filled}
use borrow.Author.Rules.{rules}
use Rattle.osu_records.proofs.fill.Goals as goal

pub returns : goal.returns
unfolding filled
returns c = search rules
