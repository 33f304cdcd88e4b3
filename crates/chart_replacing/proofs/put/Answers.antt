-- `chart_replacing::put` meets its contract. Assumes nothing.
use native.Mathlib.Omega.{arith}
use mathlib.Core.Path.{◌∙◌}
use Rattle.chart_replacing.specs.Put.{paste_put}
use Rattle.chart_replacing.proofs.Copy.{begin, more, all}
use Rattle.chart_replacing.proofs.put.Goals as goal

pub loop-k-init : goal.loop-k-init
loop-k-init c = begin _ _ _ _

pub loop-k-preserved : goal.loop-k-preserved
loop-k-preserved c = more c.loop-k.invariant c.loop-k-test.true c.requires (omega arith)

pub returns : goal.returns
returns c = all c.loop-k.invariant c.loop-k-test.false ∙ paste_put _ _ _
