-- `skills_playing::put_row` meets its contract. Assumes nothing.
use native.Mathlib.Omega.{arith}
use lib.ListN.{length-set}
use Rattle.skills_playing.proofs.Rows.{sets_row}
use Rattle.skills_playing.proofs.put_row.Goals as goal

pub bounds-list-at-2 : goal.bounds-list-at-2
bounds-list-at-2 c = simp length-set (omega (arith, c.requires))

pub bounds-list-at-3 : goal.bounds-list-at-3
bounds-list-at-3 c = simp length-set (omega (arith, c.requires))

pub bounds-list-at-4 : goal.bounds-list-at-4
bounds-list-at-4 c = simp length-set (omega (arith, c.requires))

pub returns : goal.returns
returns c = sets_row c.args.list.now c.args.m c.args.t c.requires
