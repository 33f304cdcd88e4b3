-- `osu_object::OsuObject::new` meets its contract. Assumes nothing.
use Rattle.osu_object.specs.Osu.{osu_object}
use Rattle.osu_object.proofs.OsuObject.new.Goals as goal

pub returns : goal.returns
unfolding osu_object
returns c = simp c.from.ensures
