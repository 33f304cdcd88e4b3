-- `skills::strain::reduction` meets its contract. Assumes nothing.
use Rattle.skills.specs.Value.{reduction}
use Rattle.skills.proofs.strain.reduction.Goals as goal

pub returns : goal.returns
unfolding reduction
returns c = simp (c.lerp-2.ensures, c.log10-scale.ensures, c.lerp.ensures, c.clamped.ensures)
