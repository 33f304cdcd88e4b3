-- `skills_stars::Asked::is_finite` meets its contract. Assumes nothing.
use Rattle.skills_stars.specs.Stars.{finite_asked}
use Rattle.skills_stars.proofs.Asked.is_finite.Goals as goal

pub returns : goal.returns
unfolding finite_asked
returns c = simp (c.finite_if-2.ensures, c.finite_if.ensures, c.is_finite-3.ensures, c.is_finite-2.ensures, c.is_finite.ensures)
