-- `osu_object::OsuObject::end_pos` meets its contract. Assumes nothing.
use mathlib.Core.Path.{ap}
use Rattle.osu_object.specs.Osu.{is_slider, end_pos}
use Rattle.osu_object.proofs.OsuObject.end_pos.Goals as goal

pub invariant_of-tail : goal.invariant_of-tail
invariant_of-tail c = record { slides = c.requires (ap is_slider c.in-Slider.is) }

pub returns-in-Circle : goal.returns-in-Circle
unfolding end_pos
returns-in-Circle c = simp c.in-Circle.is

pub returns-in-Spinner : goal.returns-in-Spinner
unfolding end_pos
returns-in-Spinner c = simp c.in-Spinner.is

pub returns-in-Slider : goal.returns-in-Slider
unfolding end_pos
returns-in-Slider c = simp (c.tail.ensures, c.in-Slider.is)
