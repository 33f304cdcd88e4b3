-- `skills_playing::totals_of` meets its contract. Assumes nothing.
use Rattle.skills_playing.proofs.Rows.{skills_same}
use Rattle.skills_playing.proofs.totals_of.Goals as goal

pub returns : goal.returns
returns c = skills_same _ _ c.total_of.ensures c.total_of-2.ensures c.total_of-3.ensures c.total_of-4.ensures
