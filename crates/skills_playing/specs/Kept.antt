-- What the walk keeps of a skill's closed sections, and the total from that. Definitions only.
use Rattle.std.specs.Prelude.{ℕ, ◌-◌, ◌≤◌, ◌≡◌, List, [], length, take, Float}
use Rattle.num_floats.specs.Numbers.{◌⊕◌, zero64}
use Rattle.num_sort.specs.Sort.{sort_desc}
use Rattle.skills.specs.Value.{positives, sum_from, reduced_sections, speed_reduced_sections}
use Rattle.skills.specs.Strains.{Walk, room, close_to, initial_strain, walk, current, strain_at, first_end}
use Rattle.skills.specs.declared.Skill.{Skill}
use Rattle.skills.specs.declared.Skill.TheVariants.{Aim, AimNoSliders, Speed, Flashlight}
use Rattle.skills.specs.declared.Skills.{Skills}
use Rattle.skills_playing.specs.declared.Played.{Played}
use Rattle.skills_playing.specs.declared.Four.{Four}
use Rattle.skills_peaks.specs.Peaks.{Sorted, with_peak, value_of_sorted}
use Rattle.chart_fields.specs.declared.Layout.{Layout}

-- the peaks that are kept of the closed sections: those above zero, in order; flashlight keeps their sum only
unfoldable pub kept_of : Skill → List Float → List Float
kept_of Aim peaks = sort_desc (positives peaks)
kept_of AimNoSliders peaks = sort_desc (positives peaks)
kept_of Speed peaks = sort_desc (positives peaks)
kept_of Flashlight peaks = []

-- and one more
unfoldable pub kept_with : Skill → List Float → Float → List Float
kept_with Aim s x = with_peak s x
kept_with AimNoSliders s x = with_peak s x
kept_with Speed s x = with_peak s x
kept_with Flashlight s x = s

-- a skill's total, from the kept peaks, the sum of the closed sections' peaks, and the open section's peak
unfoldable pub open_total : Skill → List Float → Float → Float → Float
open_total Aim s sum peak = value_of_sorted reduced_sections (with_peak s peak)
open_total AimNoSliders s sum peak = value_of_sorted reduced_sections (with_peak s peak)
open_total Speed s sum peak = value_of_sorted speed_reduced_sections (with_peak s peak)
open_total Flashlight s sum peak = sum ⊕ peak

-- the scratch has room, and what is kept there is in order
pub record Fit (p : List Float) (s : Played) : Type 0 where
  pub within : s.count ≤ room
  pub few : s.kept ≤ s.count
  pub long : 8192 ≤ length p
  pub sorted : Sorted (take s.kept p)

-- the scratch p and s are what the walk w is reached with
pub record Shows (k : Skill) (p : List Float) (s : Played) (w : Walk) : Type 0 where
  pub count_is : s.count ≡ length w.peaks
  pub kept_is : take s.kept p ≡ kept_of k w.peaks
  pub sum_is : s.sum ≡ sum_from zero64 w.peaks
  pub peak_is : s.peak ≡ w.peak
  pub end_is : s.end ≡ w.end

-- the sections that end before `start` closed
pub record Closed (k : Skill) (last start : Float) (p₀ : List Float) (from : Played) (p : List Float) (r : Played) : Type 0 where
  pub fit : Fit p r
  pub same_current : r.current ≡ from.current
  pub same_strain : r.strain ≡ from.strain
  pub shows : (w : Walk) → Shows k p₀ from w → Shows k p r (close_to (room - from.count) (initial_strain k from.strain last) start w)

-- ---- after places 1 to j, for start times, delta times and values by place
pub record PlayedAt (k : Skill) (starts deltas : ℕ → Float) (vs : ℕ → List Float) (p : List Float) (s : Played) (j : ℕ) : Type 0 where
  pub shows : Shows k p s (walk k starts (strain_at deltas vs k) j)
  pub current_is : s.current ≡ current deltas vs k j
  pub strain_is : s.strain ≡ strain_at deltas vs k j

-- one place more
pub record Stepped (k : Skill) (vs : ℕ → List Float) (j : ℕ) (last start delta : Float) (p₀ : List Float) (from : Played) (p : List Float) (r : Played) : Type 0 where
  pub fit : Fit p r
  pub at : (starts deltas : ℕ → Float) → last ≡ starts (j - 1) → start ≡ starts j → delta ≡ deltas j → PlayedAt k starts deltas vs p₀ from (j - 1) → PlayedAt k starts deltas vs p r j

-- before place 1, which starts at `start`
abbrev pub first_played : Float → Played
first_played start = record { kept = 0; count = 0; sum = zero64; peak = zero64; end = first_end start; current = zero64; strain = zero64 }

-- ---- the four skills
pub record FourFit (a b c d : List Float) (s : Four) : Type 0 where
  pub first : Fit a s.aim
  pub second : Fit b s.aim_no_sliders
  pub third : Fit c s.speed
  pub fourth : Fit d s.flashlight

pub record FourStepped (vs : ℕ → List Float) (j : ℕ) (last start delta : Float) (a₀ b₀ c₀ d₀ : List Float) (from : Four) (a b c d : List Float) (r : Four) : Type 0 where
  pub first : Stepped Aim vs j last start delta a₀ from.aim a r.aim
  pub second : Stepped AimNoSliders vs j last start delta b₀ from.aim_no_sliders b r.aim_no_sliders
  pub third : Stepped Speed vs j last start delta c₀ from.speed c r.speed
  pub fourth : Stepped Flashlight vs j last start delta d₀ from.flashlight d r.flashlight

-- the totals after the places so far
abbrev pub played_total : Skill → Played → List Float → Float
played_total k s p = open_total k (take s.kept p) s.sum s.peak

abbrev pub four_totals : Four → List Float → List Float → List Float → List Float → Skills
four_totals s a b c d = record {
  aim = played_total Aim s.aim a;
  aim_no_sliders = played_total AimNoSliders s.aim_no_sliders b;
  speed = played_total Speed s.speed c;
  flashlight = played_total Flashlight s.flashlight d;
}

-- the totals where there is no place: after 0 objects and after 1
abbrev pub no_totals : Skills
no_totals = record { aim = zero64; aim_no_sliders = zero64; speed = zero64; flashlight = zero64 }

-- the layout of the first m objects
abbrev pub first_objects : Layout → ℕ → Layout
first_objects lay m = record {
  n = m;
  nested = lay.nested;
  points = lay.points;
  object_size = lay.object_size;
  nested_at = lay.nested_at;
  points_at = lay.points_at;
}
