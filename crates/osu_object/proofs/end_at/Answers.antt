-- `osu_object::end_at` meets its contract. Assumes nothing.
use mathlib.Core.Path.{◌∙◌}
use Rattle.osu_object.proofs.Reading.{slides_there, end_from}
use Rattle.osu_object.proofs.end_at.Goals as goal

pub stacked_end_pos-requires : goal.stacked_end_pos-requires
stacked_end_pos-requires c = slides_there _ _ _ _ c.fields_of-f.ensures _ c.new-o.ensures _ c.from.ensures c.requires.0 c.requires.1

pub returns : goal.returns
returns c = c.stacked_end_pos.ensures ∙ end_from _ _ _ _ c.fields_of-f.ensures _ c.new-o.ensures _ c.from.ensures
