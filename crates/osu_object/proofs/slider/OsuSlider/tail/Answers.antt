-- `osu_object::slider::OsuSlider::tail` meets its contract. Assumes nothing.
use Rattle.osu_object.proofs.Lists.{length_list}
use Rattle.osu_object.specs.Osu.{tail_of}
use Rattle.osu_object.proofs.slider.OsuSlider.tail.Goals as goal

pub returns : goal.returns
unfolding tail_of
returns c = simp (c.nested-e.ensures, length_list)
