-- `From<Fields>` of `osu_object::Runs` meets its contract. Assumes nothing.
use mathlib.Core.Path.{refl}
use Rattle.osu_object.specs.Osu.{runs_of}
use Rattle.osu_object.proofs.RunsFromFields.from.Goals as goal

pub returns : goal.returns
unfolding runs_of
returns c = refl
