-- `osu_object::slider::OsuSlider::reached` meets its contract. Assumes nothing.
use Rattle.osu_object.proofs.slider.OsuSlider.reached.Goals as goal

pub returns : goal.returns
returns c = simp c.point.ensures
