-- `skills_counts::fold::is_slider` meets its contract. Assumes nothing.
use Rattle.skills_counts.specs.Chart.{slider_at}
use Rattle.skills_counts.proofs.fold.is_slider.Goals as goal

pub returns : goal.returns
unfolding slider_at
returns c = simp (c.is_slider.ensures, c.fields_of.ensures)
