-- `eval_speed::evaluate_diff_of` meets its contract. Assumes nothing.
use native.Mathlib.Nat.{sub-zero}
use Rattle.eval_speed.specs.Speed.{speed_of}
use Rattle.osu_object.specs.Osu.{object_of}
use Rattle.osu_object.specs.Base.{base_of}
use Rattle.eval_speed.proofs.Laws.{next_where}
use Rattle.eval_speed.proofs.evaluate_diff_of.Goals as goal

pub returns : goal.returns
unfolding speed_of object_of base_of
returns c =
    simp (sub-zero, c.evaluate.ensures, c.next_of.ensures, c.travel_before.ensures, c.record_at.ensures, c.is_spinner.ensures, c.new-base.ensures, c.fields_of.ensures)
    (next_where _ _ _ _ _ _ _)
