-- `num_roots::whole_root` meets its contract: the test of a near root; a number below 2^54 has a root below 2^27. Assumes nothing.
use borrow.Author.Rules.{rules}
use Rattle.num_roots.proofs.Halves.{root_below}
use Rattle.num_roots.proofs.whole_root.Goals as goal

pub returns : goal.returns
returns c = record {
  fact_1 = c.tested_root.ensures;
  fact_2 = root_below _ _ _ c.tested_root.ensures (search rules);
}
