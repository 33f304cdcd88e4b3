-- `num_elementary::log10` meets its contract: a NaN of Log stays one. Assumes nothing.
use Rattle.std.proofs.Common.{◌≡◌, Bool, true, false, cond, refl, ap, ◌∙◌}
use lib.Ieee as Ieee
use lib.Ieee.{Float, nan, mul, div}
use lib.Ieee.Scale.{finite}
use Rattle.num_floats.specs.Numbers.{zero64, ◌⊗◌, ◌⊘◌}
use Rattle.num_elementary.specs.Power.{log64, log_total, log10_of, two40, log10_of2}
use Rattle.num_elementary.proofs.log10.Goals as goal

scaled : (f a : Bool) (l : Float) → cond f (cond a l nan) nan ⊘ two40 ⊗ log10_of2 ≡ cond f (cond a (l ⊘ two40 ⊗ log10_of2) nan) nan
unfolding mul div
scaled true true l = refl
scaled true false l = refl
scaled false a l = refl

of_log : (b : Float) → log_total b ⊘ two40 ⊗ log10_of2 ≡ log10_of b
unfolding log_total log10_of
of_log b = scaled (finite b) (Ieee.lt zero64 b) (log64 b)

pub returns : goal.returns
returns c = ap (λ (x : Float). x ⊘ two40 ⊗ log10_of2) c.log.ensures ∙ of_log c.args.b
