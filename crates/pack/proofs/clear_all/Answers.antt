-- `pack::clear_all` meets its contract. Assumes nothing.
use Rattle.calls.specs.Calls.{cleared}
use Rattle.calls_figures.specs.Answers.{scratch_of}
use Rattle.pack.proofs.clear_all.Goals as goal

pub returns : goal.returns
unfolding cleared
returns c =
    λ i. scratch_of (c.clear.ensures i) (c.clear-2.ensures i) (c.clear-3.ensures i) (c.clear-4.ensures i)
