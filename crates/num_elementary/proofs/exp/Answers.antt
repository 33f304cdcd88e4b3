-- `num_elementary::exp` meets its contract. Assumes nothing.
use Rattle.std.proofs.Common.{sym, ◌∙◌}
use Rattle.num_elementary.specs.Power.{exp_of}
use Rattle.num_elementary.proofs.exp.Goals as goal

pub returns-then-is_finite : goal.returns-then-is_finite
unfolding exp_of
returns-then-is_finite c = let y = sym c.is_finite.ensures ∙ c.if-is_finite.true in c.two.ensures ∙ simp y

pub returns-else-is_finite : goal.returns-else-is_finite
unfolding exp_of
returns-else-is_finite c = let n = sym c.is_finite.ensures ∙ c.if-is_finite.false in c.nan.ensures ∙ simp n
