-- `skills::decayed_strain` meets its contract: a row is five numbers of the table. Assumes nothing.
use Rattle.skills.proofs.Rows.{row_at}
use Rattle.skills.specs.Strains.{column}
use lib.Ieee.{nan}
use Rattle.skills.proofs.decayed_strain.Goals as goal

pub returns : goal.returns
returns c =
    let a = c.args in
    let k = c.column.ensures in
    let e = row_at 5 a.j (column a.skill) a.values.now nan (rw k.0 at k.1) in
    simp (e, c.multiplier.ensures, k.0)
