-- `osu_object::slider::on_line` meets its contract. Assumes nothing.
use Rattle.osu_object.specs.Path.{between}
use Rattle.osu_object.proofs.slider.on_line.Goals as goal

pub returns : goal.returns
unfolding between
returns c = simp (c.add.ensures, c.mul.ensures, c.sub.ensures, c.f64_to_f32-w.ensures)
