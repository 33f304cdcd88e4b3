-- `eval_speed::dist_bonus` meets its contract. Assumes nothing.
use lib.Ieee.{of_bits}
use Rattle.eval_speed.specs.Speed.{dist_bonus}
use borrow.Author.Rules.{rules}
use Rattle.eval_speed.proofs.dist_bonus.Goals as goal

pub returns-then-autopilot : goal.returns-then-autopilot
unfolding of_bits dist_bonus
returns-then-autopilot c = search rules

pub returns : goal.returns
unfolding dist_bonus
returns c = simp (c.root.ensures, c.power-bonus.ensures, c.min-dist.ensures, c.if-autopilot.false)
