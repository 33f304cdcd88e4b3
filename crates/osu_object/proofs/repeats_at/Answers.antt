-- `osu_object::repeats_at` meets its contract. Assumes nothing.
use mathlib.Core.Path.{sym, ◌∙◌}
use Rattle.osu_object.proofs.Reading.{slides_there, repeats_from, repeats_none}
use Rattle.osu_object.proofs.repeats_at.Goals as goal

pub invariant_of-repeat_count : goal.invariant_of-repeat_count
invariant_of-repeat_count c = record { slides = slides_there _ _ _ _ c.fields_of-f.ensures _ c.new-o.ensures _ c.from-runs.ensures c.requires.0 c.requires.1 (sym c.is_slider.ensures ∙ c.if-is_slider.true) }

pub returns-then-is_slider : goal.returns-then-is_slider
returns-then-is_slider c = c.repeat_count.ensures ∙ repeats_from _ _ _ _ c.fields_of-f.ensures _ c.new-o.ensures _ c.from-runs.ensures (sym c.is_slider.ensures ∙ c.if-is_slider.true)

pub returns : goal.returns
returns c = repeats_none _ _ _ _ c.fields_of-f.ensures _ c.new-o.ensures (sym c.is_slider.ensures ∙ c.if-is_slider.false)
