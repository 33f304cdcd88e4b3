-- The totals after m objects are the ordinary totals of the layout of the first m. Assumes nothing.
use Prim.Native.Nat.{ℕ, zero, suc, ◌≤◌}
use native.Mathlib.Nat.{mul-le-mul_left, le_trans}
use native.Mathlib.Omega.{arith}
use mathlib.Core.Path.{◌≡◌, refl, ap, ◌∙◌}
use mathlib.Core.List.{List}
use lib.Ieee.{Float}
use Rattle.chart_fields.specs.Objects.{Holds, fields_of}
use Rattle.chart_fields.specs.declared.Layout.{Layout}
use Rattle.num_tables.specs.Parts.{row}
use Rattle.skills.specs.Chart.{Readable, start_at, delta_at, totals_of}
use Rattle.skills.specs.Strains.{total}
use Rattle.skills_playing.specs.Kept.{first_objects}
use Rattle.skills_playing.specs.Playing.{totals_after}

module _ (s : List ℕ) (lay : Layout) (m : ℕ) where
  holds_first : m ≤ lay.n → Holds s lay → Holds s (first_objects lay m)
  holds_first h w = record {
    few = le_trans h w.few;
    few_nested = w.few_nested;
    few_points = w.few_points;
    size_least = w.size_least;
    size_most = w.size_most;
    objects = omega (arith, mul-le-mul_left lay.object_size h, w.objects);
    nested_in_lem = w.nested_in_lem;
    points_in = w.points_in;
  }

  pub readable_first : (values : List Float) → m ≤ lay.n → Readable s lay values → Readable s (first_objects lay m) values
  readable_first values h r = record { holds = holds_first h r.holds; rows = omega (arith, r.rows) }

  module _ (clock : Float) where
    starts_same : (j : ℕ) → start_at s (first_objects lay m) clock j ≡ start_at s lay clock j
    unfolding start_at fields_of
    starts_same zero = refl
    starts_same (suc j) = refl

    deltas_same : (j : ℕ) → delta_at s (first_objects lay m) clock j ≡ delta_at s lay clock j
    unfolding delta_at fields_of
    deltas_same j = refl

    pub totals_first : (values : List Float) → totals_of s (first_objects lay m) clock values ≡ totals_after s lay clock values m
    totals_first values =
        ap (λ (f : ℕ → Float). total f (delta_at s (first_objects lay m) clock) (row 5 values) m) (λ i j. starts_same j i)
        ∙ ap (λ (f : ℕ → Float). total (start_at s lay clock) f (row 5 values) m) (λ i j. deltas_same j i)
