-- `osu_difficulty_object::cursor::required_movement` meets its contract. Assumes nothing.
use borrow.Author.Tests.{eq-eqb, ne_eqb}
use Rattle.osu_difficulty_object.specs.Cursor.{required_of}
use Rattle.osu_difficulty_object.proofs.Radii.{assumed_radius}
use Rattle.osu_difficulty_object.proofs.cursor.required_movement.Goals as goal

pub returns-then-last : goal.returns-then-last
unfolding required_of
returns-then-last c = simp (assumed_radius, c.widen.ensures, c.if-last.true)

pub returns-then-kind : goal.returns-then-kind
unfolding required_of
returns-then-kind c = simp (eq-eqb _ _ c.if-kind.true, c.if-last.false)

pub returns : goal.returns
unfolding required_of
returns c = simp (assumed_radius, c.widen-2.ensures, ne_eqb _ _ c.if-kind.false, c.if-last.false)
