-- `skills_rating::ar_length_bonus` meets its contract. Assumes nothing.
use Rattle.skills_rating.specs.Rating.{ar_length_bonus}
use Rattle.skills_rating.proofs.ar_length_bonus.Goals as goal

pub returns : goal.returns
unfolding ar_length_bonus
returns c = simp (c.log10.ensures, c.above.ensures, c.min-short.ensures)
