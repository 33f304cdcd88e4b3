-- `num_floats::abs` meets its contract: the two definitions of a size without its sign, at each kind of value. Assumes nothing.
use Rattle.std.specs.Prelude.{◌≡◌, refl, false, Float}
use Rattle.std.proofs.Common.{◌∙◌}
use Rattle.std.specs.Float.{nan, inf, fin, float_with_sign}
use Rattle.num_floats.specs.Compare.{abs_of}
use Rattle.num_floats.proofs.abs.Goals as goal

without_sign : (x : Float) → float_with_sign false x ≡ abs_of x
unfolding float_with_sign abs_of
without_sign nan = refl
without_sign (inf s) = refl
without_sign (fin s m e) = refl

pub returns : goal.returns
returns c = c.abs.ensures.value ∙ without_sign c.args.x
