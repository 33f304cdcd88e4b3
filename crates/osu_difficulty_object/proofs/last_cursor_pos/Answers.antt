-- `osu_difficulty_object::last_cursor_pos` meets its contract. Assumes nothing.
use borrow.Author.Tests.{le-ltb}
use native.Mathlib.Omega.{arith}
use Rattle.osu_difficulty_object.specs.Record.{last_cursor}
use Rattle.osu_difficulty_object.proofs.last_cursor_pos.Goals as goal

pub returns : goal.returns
unfolding last_cursor
returns c = simp (le-ltb c.args.j 2 (omega arith), c.get_end_cursor_pos.ensures)
