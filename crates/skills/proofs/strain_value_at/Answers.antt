-- `skills::strain_value_at` meets its contract: a row is five numbers of the table. Assumes nothing.
use Rattle.std.proofs.Common.{lit<}
use Rattle.std.specs.Float.{nan}
use Rattle.skills.specs.Strains.{joined}
use Rattle.skills.proofs.Rows.{row_at}
use Rattle.skills.proofs.strain_value_at.Goals as goal

pub returns-in-Speed : goal.returns-in-Speed
unfolding joined
returns-in-Speed c = let e = row_at 5 c.args.j 3 c.args.values.now nan (lit< tt) in cc
