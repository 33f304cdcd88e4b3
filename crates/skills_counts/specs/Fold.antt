-- What the code's one walk goes over: the strains of a skill at some of the objects. Definitions only.
use Rattle.std.specs.Prelude.{ℕ, ◌-◌, Bool, List, Float}
use Rattle.num_floats.specs.Numbers.{◌⊖◌, ◌⊘◌, zero64}
use Rattle.chart_fields.specs.Objects.{fields_of}
use Rattle.chart_fields.specs.declared.Layout.{Layout}
use Rattle.num_tables.specs.Parts.{row}
use Rattle.skills.specs.declared.Skill.{Skill}
use Rattle.skills.specs.Strains.{strain_next, joined, strain_at}
use Rattle.skills.specs.Chart.{delta_at}
use Rattle.skills_counts.specs.Counts.{list_from, every}
use Rattle.skills_counts.specs.Chart.{slider_at}
use Rattle.skills_counts.specs.declared.fold.Objects.{Objects}
use Rattle.skills_counts.specs.declared.fold.Objects.TheVariants.{All, Sliders}
use Rattle.skills_counts.specs.declared.fold.Place.{Place}

module _ (s : List ℕ) (lay : Layout) where
  unfoldable pub keeps_of : Objects → ℕ → Bool
  keeps_of All = every
  keeps_of Sliders = slider_at s lay

  -- before place 1
  abbrev pub place_zero : Place
  place_zero = record { start = (fields_of s lay 0).start; current = zero64; strain = zero64 }

  module _ (clock : Float) (values : List Float) where
    -- a place after the place before
    abbrev pub place_next : Skill → Place → ℕ → Place
    place_next k last j =
        let start = (fields_of s lay j).start in
        let current = strain_next k last.current ((start ⊖ last.start) ⊘ clock) (row 5 values j) in
        record { start = start; current = current; strain = joined k current (row 5 values j) }

    abbrev pub strain_of : Skill → ℕ → Float
    strain_of k j = strain_at (delta_at s lay clock) (row 5 values) k j

    abbrev pub strains_of : Objects → Skill → List Float
    strains_of of k = list_from (keeps_of of) (strain_of k) 1 (lay.n - 1)
