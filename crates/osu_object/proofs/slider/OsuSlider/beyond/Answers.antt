-- `osu_object::slider::OsuSlider::beyond` meets its contract. Assumes nothing.
use Rattle.osu_object.proofs.Lists.{length_list}
use Rattle.osu_object.proofs.Lookup.{only_point, too_near, last_line}
use mathlib.Core.Path.{◌∙◌}
use Rattle.osu_object.proofs.slider.OsuSlider.beyond.Goals as goal

pub returns-then-count-eq1 : goal.returns-then-count-eq1
returns-then-count-eq1 c = c.point_pos.ensures ∙ only_point _ _ _ (length_list _ _ _) _ c.point-p1.ensures c.if-count-eq1.true

pub returns-then-p1-p0 : goal.returns-then-p1-p0
returns-then-p1-p0 c =
    c.point_pos-then-p1-p0.ensures
    ∙ too_near _ _ _ (length_list _ _ _) _ c.point-p1.ensures c.if-count-eq1.false _ c.point-p0.ensures c.if-p1-p0.true

pub returns : goal.returns
returns c =
    c.on_line.ensures
    ∙ last_line _ _ _ (length_list _ _ _) _ c.point-p1.ensures c.if-count-eq1.false _ c.point-p0.ensures c.if-p1-p0.false
