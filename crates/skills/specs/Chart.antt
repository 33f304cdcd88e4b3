-- Strains and totals of a chart: start and delta times from its bytes by the clock rate, values from a table of five numbers a place. Definitions only.
use Rattle.std.specs.Prelude.{List, [], ◌∷◌, ℕ, zero, suc, ◌-◌, ◌*◌, ◌≤◌, length, Float}
use Rattle.num_floats.specs.Numbers.{◌⊖◌, ◌⊘◌, zero64}
use Rattle.chart_fields.specs.Objects.{Holds, fields_of}
use Rattle.chart_fields.specs.declared.Layout.{Layout}
use Rattle.num_tables.specs.Parts.{row}
use Rattle.skills.specs.declared.Skill.{Skill}
use Rattle.skills.specs.declared.Skills.{Skills}
use Rattle.skills.specs.Strains.{peaks_to, strain_at, total_to, total}

-- the chart holds what the layout says, and the table has a row for each place
pub record Readable (s : List ℕ) (lay : Layout) (values : List Float) : Type 0 where
  pub holds : Holds s lay
  pub rows : 5 * lay.n ≤ length values

-- "scratch below 8,192 numbers per skill": room for the sections that are closed before the last, and for the last
abbrev pub Roomy : List Float → Type 0
Roomy scratch = 8192 ≤ length scratch

module _ (s : List ℕ) (lay : Layout) (clock : Float) where
  -- object.rs, start_time; 0 at place 0, which has no record
  unfoldable pub start_at : ℕ → Float
  start_at zero = zero64
  start_at (suc j) = (fields_of s lay (suc j)).start ⊘ clock

  -- object.rs, delta_time
  unfoldable pub delta_at : ℕ → Float
  delta_at j = ((fields_of s lay j).start ⊖ (fields_of s lay (j - 1)).start) ⊘ clock

  module _ (values : List Float) where
    -- a skill's strain at a place, as a row of one number
    abbrev pub strain_row : Skill → ℕ → List Float
    strain_row k j = strain_at delta_at (row 5 values) k j ∷ []

    -- the peaks of a skill's sections, over two objects or more
    abbrev pub peaks_of : Skill → List Float
    peaks_of k = peaks_to k start_at (strain_at delta_at (row 5 values) k) (lay.n - 1)

    abbrev pub total_of : Skill → Float
    total_of k = total_to start_at delta_at (row 5 values) k lay.n

    abbrev pub totals_of : Skills
    totals_of = total start_at delta_at (row 5 values) lay.n
