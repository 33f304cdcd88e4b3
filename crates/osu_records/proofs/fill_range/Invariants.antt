-- `osu_records::fill_range` meets its contract: the objects at j - 1 and j - 2 are kept from the turns before. Assumes nothing.
use Rattle.osu_records.proofs.Filling.{Filled}
use Rattle.osu_records.proofs.fill_range.Given as goal

abbrev pub invariant-loop-j : goal.invariant-loop-j
invariant-loop-j l = Filled l.chart l.lay l.set l.from l.to l.initial.t l.t l.last l.last_last l.j
