-- `num_angle::straight_angle` meets its contract. Assumes nothing.
use mathlib.Core.Path.{sym, ◌∙◌, refl}
use Rattle.num_angle.specs.Float.{straight}
use Rattle.num_angle.proofs.straight_angle.Goals as goal

pub returns-then-sign_bit : goal.returns-then-sign_bit
unfolding straight
returns-then-sign_bit c = rw (sym c.sign_bit.ensures ∙ c.if-sign_bit.true) refl

pub returns-else-sign_bit : goal.returns-else-sign_bit
unfolding straight
returns-else-sign_bit c = rw (sym c.sign_bit.ensures ∙ c.if-sign_bit.false) refl
