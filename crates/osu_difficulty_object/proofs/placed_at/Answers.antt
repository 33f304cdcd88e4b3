-- `osu_difficulty_object::placed_at` meets its contract. Assumes nothing.
use Rattle.osu_object.specs.Osu.{is_slider}
use Rattle.osu_object.proofs.Reading.{slides_there}
use Rattle.osu_difficulty_object.proofs.Placing.{placed_circle, placed_spinner, placed_slider}
use mathlib.Core.Path.{ap, ◌∙◌}
use Rattle.osu_difficulty_object.proofs.placed_at.Goals as goal

pub invariant_of-slider : goal.invariant_of-slider
invariant_of-slider c = record { slides = slides_there _ _ _ _ c.fields_of-f.ensures _ c.new-base.ensures _ c.from-runs.ensures c.requires.0 c.requires.1 (ap is_slider c.in-Slider.is) }

pub returns-in-Circle : goal.returns-in-Circle
returns-in-Circle c = c.plain.ensures ∙ placed_circle _ _ _ _ c.fields_of-f.ensures _ c.new-base.ensures _ c.in-Circle.is

pub returns-in-Spinner : goal.returns-in-Spinner
returns-in-Spinner c = c.plain-in-Spinner.ensures ∙ placed_spinner _ _ _ _ c.fields_of-f.ensures _ c.new-base.ensures _ c.in-Spinner.is

pub returns-in-Slider : goal.returns-in-Slider
returns-in-Slider c = placed_slider _ _ _ _ c.fields_of-f.ensures _ c.new-base.ensures _ _ c.from-runs.ensures _ _ c.in-Slider.is _ _ _ c.compute_slider_cursor_pos.ensures c.tail.ensures c.repeat_count.ensures
