-- `pack::check_all` meets its contract. Assumes nothing.
use Rattle.pack.specs.Pack.{listed_check}
use lib.ListN.{length}
use Rattle.pack.proofs.Checks.{Passing}
use Rattle.pack.proofs.check_all.Given as goal

abbrev pub invariant-loop-at : goal.invariant-loop-at
invariant-loop-at l = Passing (listed_check l.entries l.short l.finite l.pack) l.list (length l.list) l.at-index
