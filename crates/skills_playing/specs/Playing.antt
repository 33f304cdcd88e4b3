-- "the totals reached after the first m objects": for each m from 0 to N "the four totals over places 1 to m-1". Definitions only.
use Rattle.std.specs.Prelude.{ℕ, List, [], ◌∷◌, Float}
use Rattle.chart_fields.specs.declared.Layout.{Layout}
use Rattle.num_tables.specs.Parts.{row}
use Rattle.skills.specs.Chart.{start_at, delta_at}
use Rattle.skills.specs.Strains.{total}
use Rattle.skills.specs.declared.Skills.{Skills}

-- Of a chart's bytes, its layout, the clock rate and its table of values. "place m-1 still sees its successor through `next`": its values are those of the
-- whole chart's table, not those of a chart that is cut after m objects.
abbrev pub totals_after : List ℕ → Layout → Float → List Float → ℕ → Skills
totals_after s lay clock values m = total (start_at s lay clock) (delta_at s lay clock) (row 5 values) m

-- an entry of the lent list: aim, aim without sliders, speed, flashlight
abbrev pub total_row : Skills → List Float
total_row t = t.aim ∷ t.aim_no_sliders ∷ t.speed ∷ t.flashlight ∷ []

abbrev pub row_after : List ℕ → Layout → Float → List Float → ℕ → List Float
row_after s lay clock values m = total_row (totals_after s lay clock values m)
