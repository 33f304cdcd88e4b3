-- The offsets that writing an accepted edit takes lie within the buffer. Assumes nothing.
use Prim.Native.Nat.{ℕ, ◌+◌, ◌-◌, ◌^◌, ◌≤◌, ◌<◌}
use mathlib.Core.Path.{◌≡◌}
use mathlib.Core.Bool.{true}
use mathlib.Core.List.{List}
use lib.ListN.{length}
use native.Mathlib.Nat.{mul-le-mul}
use native.Mathlib.Omega.{arith}
use Rattle.chart_fields.specs.Limits.{header_size, most_objects}
use Rattle.chart_fields.specs.Objects.{object_at}
use Rattle.chart_opening.proofs.Header.{parts, offsets, holds}
use Rattle.chart_opening.specs.Accepted.{header_ok_lem}
use Rattle.chart_opening.specs.Header.{layout_of, header_ok, chart_length}
use Rattle.chart_opening.specs.Conditions.{Opens}
use Rattle.chart_inserting.specs.Insert.{length_for}
use Rattle.chart_inserting.specs.Accepted.{Inserted, Removed}
use Rattle.chart_inserting.specs.Widened.{nested_at_lem, points_at_lem}
use Rattle.chart_inserting.specs.Inserted as I
use Rattle.chart_inserting.specs.Removed as R

pub long : (s : List ℕ) → Opens s → header_size ≤ length s
long s o = (parts s (header_ok_lem s o)).long

pub end_small : (s : List ℕ) → header_ok s ≡ true → chart_length s < 2 ^ 32
end_small s h =
    let H = holds s h in
    omega (
      arith,
      (offsets s (layout_of s) (parts s h).offsets).ends,
      nested_at_lem s,
      points_at_lem s,
      mul-le-mul H.size_most H.few,
      H.few_nested,
      H.few_points,
    )

module _ {s : List ℕ} {place : ℕ} {object : List ℕ} (t : Inserted s place object) where
  abbrev at : ℕ
  at = object_at (layout_of s) place

  abbrev size : ℕ
  size = (layout_of s).object_size

  pub put_starts : at ≤ chart_length s
  put_starts = I.place_within_chart s place object (header_ok_lem s t.opens) t.at t.room t.long

  pub put_fits : at + size + (chart_length s - at) ≤ length s
  put_fits = I.to_fits s place object (header_ok_lem s t.opens) t.at t.room t.long

  pub put_length : length_for (layout_of s) ((layout_of s).n + 1) ≤ length s
  put_length = I.fits s place object (header_ok_lem s t.opens) t.at t.room t.long

  pub put_count : (layout_of s).n < most_objects
  put_count = I.room_more s t.room

module _ {s : List ℕ} {place : ℕ} (t : Removed s place) where
  abbrev next : ℕ
  next = object_at (layout_of s) place + (layout_of s).object_size

  pub take_ends : next ≤ chart_length s
  take_ends = R.place_ends s place (header_ok_lem s t.opens) t.below

  pub take_fits : next + (chart_length s - next) ≤ length s
  take_fits = R.from_fits s place (header_ok_lem s t.opens) t.below

  pub take-length : length_for (layout_of s) ((layout_of s).n - 1) ≤ length s
  take-length = R.fits s place (header_ok_lem s t.opens) t.below
