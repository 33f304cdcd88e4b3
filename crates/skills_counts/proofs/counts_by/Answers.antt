-- `skills_counts::counts_by` meets its contract. Assumes nothing.
use Rattle.skills_counts.specs.Counts.{counts_by}
use Rattle.skills_counts.proofs.counts_by.Goals as goal

pub returns : goal.returns
unfolding counts_by
returns c = λ i. record {
  aim_difficult_strain_count = c.count_top_weighted_strains-a.ensures i;
  aim_no_sliders_difficult_strain_count = c.count_top_weighted_strains-b.ensures i;
  speed_difficult_strain_count = c.count_top_weighted_strains-c.ensures i;
  aim_no_sliders_top_weighted_slider_count = c.count_top_weighted_sliders-d.ensures i;
  speed_top_weighted_slider_count = c.count_top_weighted_sliders-e.ensures i;
  aim_difficult_slider_count = c.get_difficult_sliders-f.ensures i;
  speed_note_count = c.relevant_note_count-g.ensures i;
}
