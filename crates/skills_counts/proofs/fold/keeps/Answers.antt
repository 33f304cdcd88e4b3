-- `skills_counts::fold::keeps` meets its contract. Assumes nothing.
use Rattle.skills_counts.specs.Fold.{keeps_of}
use borrow.Author.Rules.{rules}
use Rattle.skills_counts.proofs.fold.keeps.Goals as goal

pub returns-in-All : goal.returns-in-All
unfolding keeps_of
returns-in-All c = search rules

pub returns-in-Sliders : goal.returns-in-Sliders
unfolding keeps_of
returns-in-Sliders c = cc
