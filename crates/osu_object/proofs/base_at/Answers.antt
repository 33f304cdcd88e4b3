-- `osu_object::base_at` meets its contract. Assumes nothing.
use Rattle.osu_object.proofs.Reading.{base_from}
use Rattle.osu_object.proofs.base_at.Goals as goal

pub returns : goal.returns
returns c = simp (c.stacked_pos.ensures, c.is_spinner.ensures, c.is_slider.ensures) (base_from _ _ _ _ c.fields_of.ensures _ c.new-o.ensures)
