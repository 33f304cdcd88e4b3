-- `eval_aim::rule` meets its contract. Assumes nothing.
use Rattle.eval_aim.specs.Aim.{rule_of}
use Rattle.eval_aim.proofs.Value.{ne_is_nan}
use Rattle.eval_aim.proofs.rule.Goals as goal

pub returns-then-is_nan-2 : goal.returns-then-is_nan-2
unfolding rule_of
returns-then-is_nan-2 c = simp (ne_is_nan, ← c.is_nan.ensures.value, c.if-is_nan.true, ← c.is_nan-then-is_nan.ensures.value, c.if-is_nan-2.true)

pub returns-else-is_nan-2 : goal.returns-else-is_nan-2
unfolding rule_of
returns-else-is_nan-2 c = simp (ne_is_nan, ← c.is_nan.ensures.value, c.if-is_nan.true, ← c.is_nan-then-is_nan.ensures.value, c.if-is_nan-2.false)

pub returns-then-acute-wide : goal.returns-then-acute-wide
unfolding rule_of
returns-then-acute-wide c = simp (c.if-acute-wide.true, ne_is_nan, ← c.is_nan.ensures.value, c.if-is_nan.false)

pub returns-else-acute-wide : goal.returns-else-acute-wide
unfolding rule_of
returns-else-acute-wide c = simp (c.if-acute-wide.false, ne_is_nan, ← c.is_nan.ensures.value, c.if-is_nan.false)
