-- `skills::strain::keep_positive` meets its contract: k of the first i elements are kept. Assumes nothing.
use Rattle.std.proofs.Common.{arith, refl}
use Rattle.skills.proofs.Keeping.{keep_yes, keep_no, keep_done}
use Rattle.skills.proofs.strain.keep_positive.Goals as goal
use Rattle.skills.proofs.strain.keep_positive.Goals.{then-x, else-x}

pub loop-i-init : goal.loop-i-init
loop-i-init c = record { below = omega arith; kept = refl; lists = refl }

pub loop-i-preserved : goal.loop-i-preserved
loop-i-preserved c =
    elim c.if-x.branch [
      | then-x w ↦ rw (w.a-is, w.k-is) (keep_yes c.loop-i.invariant (omega arith) w.if-x.true)
      | else-x w ↦ rw (w.a-is, w.k-is) (keep_no c.loop-i.invariant (omega arith) w.if-x.false)
    ]

pub returns : goal.returns
returns c = (omega arith, keep_done c.loop-i.invariant (omega arith))
