-- `osu_difficulty_object::travel_of` meets its contract. Assumes nothing.
use mathlib.Core.Path.{sym, ◌∙◌}
use Rattle.osu_difficulty_object.specs.Record.{travel_of}
use Rattle.osu_difficulty_object.proofs.travel_of.Goals as goal

pub returns-then-is_slider : goal.returns-then-is_slider
unfolding travel_of
returns-then-is_slider c = simp (c.max.ensures, c.power.ensures, sym c.is_slider.ensures ∙ c.if-is_slider.true)

pub returns : goal.returns
unfolding travel_of
returns c = simp (sym c.is_slider.ensures ∙ c.if-is_slider.false)
