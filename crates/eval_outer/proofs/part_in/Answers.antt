-- `eval_outer::part_in` meets its contract. Assumes nothing.
use native.Mathlib.Omega.{arith}
use borrow.Author.Tests.{lt-ltb, le-ltb}
use Rattle.eval_outer.proofs.part_in.Goals as goal

pub returns-then-j-records : goal.returns-then-j-records
returns-then-j-records c = (c.first_place-first.ensures, simp (lt-ltb c.args.j c.args.records (omega arith)), omega arith, omega arith)

pub returns : goal.returns
returns c = (c.first_place-first.ensures, simp (le-ltb _ _ c.if-j-records.false), omega arith, omega arith)
