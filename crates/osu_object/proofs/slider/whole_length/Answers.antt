-- `osu_object::slider::whole_length` meets its contract. Assumes nothing.
use Rattle.osu_object.specs.Path.{whole_length}
use Rattle.osu_object.proofs.slider.whole_length.Goals as goal

pub returns-then-stated : goal.returns-then-stated
unfolding whole_length
returns-then-stated c = simp c.if-stated.true

pub returns : goal.returns
unfolding whole_length
returns c = simp c.if-stated.false
