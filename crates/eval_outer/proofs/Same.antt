-- A slice that holds the records of a table has the table's values. Assumes nothing.
use Prim.Native.Nat.{ℕ, ◌+◌, ◌≤◌, ◌<◌}
use native.Mathlib.Omega.{arith}
use mathlib.Core.Path.{◌≡◌, refl, ap}
use mathlib.Core.List.{List}
use lib.Ieee.{Float}
use Rattle.chart_fields.specs.declared.Layout.{Layout}
use Rattle.chart_opening.specs.declared.Settings.{Settings}
use Rattle.osu_object.specs.Osu.{object_of}
use Rattle.osu_difficulty_object.specs.declared.OsuDifficultyObject.{OsuDifficultyObject as Record}
use Rattle.osu_records.specs.Rows.{record_at as entry_at}
use Rattle.eval_values.specs.Values.{reach_of, values_of, values_in}
use Rattle.eval_values.proofs.Local.{values_local}
use Rattle.eval_outer.specs.Records.{record_of}

-- laws of numbers on their own, with few facts in reach of `omega`
reaches : (n j : ℕ) → j < n → j ≤ reach_of n j
reaches n j h = omega arith

near : (n j : ℕ) → reach_of n j ≤ j + 1
near n j = omega arith

inside : (n j i : ℕ) → j < n → i ≤ reach_of n j → i < n
inside n j i h l = omega arith

module _ (set : Settings) (chart : List ℕ) (lay : Layout) (rs : List Record) (t : List Float) (same : (i : ℕ) → 1 ≤ i → i < lay.n → record_of rs i ≡ entry_at t i) where
  pub slice_is_table : (j : ℕ) → 1 ≤ j → j < lay.n → values_of set (reach_of lay.n j) (object_of chart lay) (record_of rs) j ≡ values_in set chart lay t j
  slice_is_table j one h =
      values_local set (reach_of lay.n j) (object_of chart lay) (object_of chart lay) (record_of rs) (entry_at t) j one (reaches lay.n j h) (near lay.n j)
      (λ i a b. refl)
      (λ i a b c. same i a (inside lay.n j i h c))
      (λ i a b c. ap (λ (r : Record). r.start_time) (same i a (inside lay.n j i h c)))
      (λ i a b c. ap (λ (r : Record). r.delta_time) (same i a (inside lay.n j i h c)))
