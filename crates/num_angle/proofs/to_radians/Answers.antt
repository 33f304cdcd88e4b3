-- `num_angle::to_radians` meets its contract. Assumes nothing.
use mathlib.Core.Path.{refl}
use Rattle.num_angle.specs.Float.{radians_of}
use Rattle.num_angle.proofs.to_radians.Goals as goal

pub returns : goal.returns
unfolding radians_of
returns c = refl
