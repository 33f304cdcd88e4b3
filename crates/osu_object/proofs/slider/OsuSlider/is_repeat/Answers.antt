-- `osu_object::slider::OsuSlider::is_repeat` meets its contract. Assumes nothing.
use Rattle.osu_object.proofs.slider.OsuSlider.is_repeat.Goals as goal

pub returns : goal.returns
returns c = simp c.nested.ensures
