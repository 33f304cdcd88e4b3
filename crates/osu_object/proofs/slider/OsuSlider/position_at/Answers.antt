-- `osu_object::slider::OsuSlider::position_at` meets its contract. Assumes nothing.
use Rattle.osu_object.proofs.Lookup.{position_drawn, position_beyond}
use Rattle.osu_object.proofs.Lists.{length_list}
use mathlib.Core.Path.{◌∙◌}
use Rattle.osu_object.proofs.slider.OsuSlider.position_at.Goals as goal

pub returns-then-d-last : goal.returns-then-d-last
returns-then-d-last c =
    c.on_path.ensures
    ∙ position_drawn _ _ _ _ (length_list _ _ _) _ c.point-last.ensures _ c.whole_length.ensures c.if-d-last.true

pub returns : goal.returns
returns c =
    c.beyond.ensures
    ∙ position_beyond _ _ _ _ (length_list _ _ _) _ c.point-last.ensures _ c.whole_length.ensures c.if-d-last.false
