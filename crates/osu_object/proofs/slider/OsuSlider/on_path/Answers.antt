-- `osu_object::slider::OsuSlider::on_path` meets its contract. Assumes nothing.
use Rattle.osu_object.proofs.Lookup.{path_first, path_line}
use mathlib.Core.Path.{◌∙◌}
use Rattle.osu_object.proofs.slider.OsuSlider.on_path.Goals as goal

pub returns-then-i-eq0 : goal.returns-then-i-eq0
returns-then-i-eq0 c = c.point_pos.ensures ∙ path_first _ _ _ c.segment-i.ensures.0 _ c.point-p1.ensures c.if-i-eq0.true

pub returns : goal.returns
returns c = c.on_line.ensures ∙ path_line _ _ _ c.segment-i.ensures.0 _ c.point-p1.ensures _ c.point.ensures c.if-i-eq0.false
