-- The counts of a chart: times and kinds from its bytes, values from a table of five numbers a place. Definitions only.
use Rattle.std.specs.Prelude.{ℕ, Bool, List, eqb, Float}
use Rattle.chart_fields.specs.Objects.{fields_of, slider}
use Rattle.chart_fields.specs.declared.Layout.{Layout}
use Rattle.num_tables.specs.Parts.{row}
use Rattle.skills.specs.declared.Skill.{Skill}
use Rattle.skills.specs.declared.Skills.{Skills}
use Rattle.skills.specs.Chart.{start_at, delta_at}
use Rattle.skills_counts.specs.Counts as Counts
use Rattle.skills_counts.specs.declared.ObjectCounts.{ObjectCounts}

module _ (s : List ℕ) (lay : Layout) where
  -- is_slider
  unfoldable pub slider_at : ℕ → Bool
  slider_at j = eqb (fields_of s lay j).kind slider

  module _ (clock : Float) (values : List Float) where
    abbrev pub object_strains : Skill → List Float
    object_strains k = Counts.object_strains (delta_at s lay clock) slider_at (row 5 values) lay.n k

    abbrev pub slider_strains : Skill → List Float
    slider_strains k = Counts.slider_strains (delta_at s lay clock) slider_at (row 5 values) lay.n k

    abbrev pub counts_by : Skills → ObjectCounts
    counts_by by = Counts.counts_by (delta_at s lay clock) slider_at (row 5 values) lay.n by

    abbrev pub counts_of : ObjectCounts
    counts_of = Counts.counts (start_at s lay clock) (delta_at s lay clock) slider_at (row 5 values) lay.n
