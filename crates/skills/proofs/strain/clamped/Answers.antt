-- `skills::strain::clamped` meets its contract. Assumes nothing.
use Rattle.skills.specs.Value.{clamped}
use Rattle.num_floats.specs.Compare.{clamp_of}
use Rattle.num_floats.specs.Numbers.{zero64, one64}
use mathlib.Core.Path.{ap, ◌∙◌}
use lib.Ieee.{Float}
use Rattle.skills.proofs.strain.clamped.Goals as goal

pub returns : goal.returns
unfolding clamped
returns c = c.clamp.ensures ∙ ap (λ (x : Float). clamp_of x zero64 one64) c.widen.ensures
