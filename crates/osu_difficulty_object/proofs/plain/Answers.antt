-- `osu_difficulty_object::plain` meets its contract. Assumes nothing.
use mathlib.Core.Path.{refl}
use Rattle.osu_difficulty_object.specs.Record.{plain_of}
use Rattle.osu_difficulty_object.proofs.plain.Goals as goal

pub returns : goal.returns
unfolding plain_of
returns c = refl
