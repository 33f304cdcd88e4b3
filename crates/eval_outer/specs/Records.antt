-- Document 01, "outer entry takes the lent slice of records as the Rust does": the slice, the window that an evaluator at a place sees of it, and what stands past its end. Definitions only.
use Rattle.std.specs.Prelude.{ℕ, zero, suc, ◌+◌, ◌-◌, ◌≤◌, ◌<◌, ◌≡◌, false, cond, List, [], ◌∷◌, T, ltb, get_or, Float}
use Rattle.std.specs.Float.{nan, binary32, binary64}
use Rattle.std.specs.Float.Ieee.{of_bits, fits}
use Rattle.osu_difficulty_object.specs.declared.OsuDifficultyObject.{OsuDifficultyObject}
use Rattle.osu_records.specs.Part.{first_place}
use Rattle.osu_records.specs.Rows.{record_at as entry_at}

-- a record of zeros: what stands past the end of a slice
abbrev pub no_record : OsuDifficultyObject
no_record = record {
  start_time = of_bits binary64 0;
  delta_time = of_bits binary64 0;
  adjusted_delta_time = of_bits binary64 0;
  lazy_jump_dist = of_bits binary64 0;
  min_jump_dist = of_bits binary64 0;
  min_jump_time = of_bits binary64 0;
  travel_dist = of_bits binary64 0;
  travel_time = of_bits binary64 0;
  lazy_end_x = of_bits binary32 0;
  lazy_end_y = of_bits binary32 0;
  lazy_travel_dist = of_bits binary64 0;
  lazy_travel_time = of_bits binary64 0;
  angle = of_bits binary64 0;
  small_circle_bonus = of_bits binary64 0;
  has_lazy_end = false;
  has_angle = false;
}

-- record i of a slice
abbrev pub record_at : List OsuDifficultyObject → ℕ → OsuDifficultyObject
record_at rs i = get_or rs i no_record

-- "Place j >= 1 is idx j-1"
abbrev pub record_of : List OsuDifficultyObject → ℕ → OsuDifficultyObject
record_of rs j = record_at rs (j - 1)

-- g 0, …, g (n - 1), and then zs
abbrev pub slots : (ℕ → OsuDifficultyObject) → ℕ → List OsuDifficultyObject → List OsuDifficultyObject
slots g zero zs = zs
slots g (suc n) zs = slots g n (g n ∷ zs)

-- the records of the places from 32 before j to one after, in their order
abbrev pub window_of : List OsuDifficultyObject → ℕ → List OsuDifficultyObject
window_of rs j = slots (λ k. record_of rs (first_place j + k)) 34 []

-- what an array is read at past its end: nothing depends on it
abbrev pub blank : OsuDifficultyObject
blank = record {
  start_time = nan;
  delta_time = nan;
  adjusted_delta_time = nan;
  lazy_jump_dist = nan;
  min_jump_dist = nan;
  min_jump_time = nan;
  travel_dist = nan;
  travel_time = nan;
  lazy_end_x = nan;
  lazy_end_y = nan;
  lazy_travel_dist = nan;
  lazy_travel_time = nan;
  angle = nan;
  small_circle_bonus = nan;
  has_lazy_end = false;
  has_angle = false;
}

-- slot k of a window
abbrev pub slot_at : List OsuDifficultyObject → ℕ → OsuDifficultyObject
slot_at w k = get_or w k blank

-- the record of place p, in a window of place j
abbrev pub in_window : List OsuDifficultyObject → ℕ → ℕ → OsuDifficultyObject
in_window w j p = slot_at w (p - first_place j)

-- a part of the table of records shows the records of a slice from 32 places before j to one after
abbrev pub Shows : List Float → List OsuDifficultyObject → ℕ → Type 0
Shows t rs j = (p : ℕ) → first_place j ≤ p → p < first_place j + 34 → entry_at t (p - first_place j) ≡ record_of rs p

-- the last place of which an evaluator at place j sees the record: the next one where a slice of so many records has it
abbrev pub last_of : ℕ → ℕ → ℕ
last_of j records = cond (ltb j records) (j + 1) j

-- the f32 fields of a record are f32, as those of each record in memory are
pub record InF32 (r : OsuDifficultyObject) : Type 0 where
  pub x : T (fits binary32 r.lazy_end_x)
  pub y : T (fits binary32 r.lazy_end_y)

abbrev pub InF32s : List OsuDifficultyObject → Type 0
InF32s w = (k : ℕ) → k < 34 → InF32 (slot_at w k)
