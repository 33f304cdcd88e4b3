-- osu/difficulty/rating.rs, in its order of operations. Definitions only.
use Rattle.std.specs.Prelude.{ℕ, ◌-◌, Bool, Option, Some, None, cond, not, ◌||◌, ltb, pos, Float}
use Rattle.std.specs.Float.Ieee as Ieee
use Rattle.std.specs.Float.{binary64}
use Rattle.num_floats.specs.Numbers.{◌⊕◌, ◌⊖◌, ◌⊗◌, ◌⊘◌, zero64, half64, one64, two64, three64}
use Rattle.num_floats.specs.Compare.{max_of, min_of, clamp_of}
use Rattle.num_roots.specs.Root.{root_of}
use Rattle.num_elementary.specs.Power.{power_of, log10_of}
use Rattle.num_util.specs.Difficulty.{reverse_lerp}
use Rattle.num_util.specs.FloatExt.{lerp}
use Rattle.skills_rating.specs.Constants.{difficulty_multiplier, third, touch_exponent, relax_aim, relax_flashlight, autopilot_flashlight, speed_attraction, full_scale, least_share}
use Rattle.skills_rating.specs.Constants.{high_rate, high_share, low_rate, low_share, length_base, length_share, long_length, short_base, short_share, short_more, short_length}
use Rattle.skills_rating.specs.Constants.{aim_accuracy, aim_accuracy_scale, speed_accuracy, speed_accuracy_scale, reading_share, reading_rate, slow_rate, slow_visible, slow_hidden}
use Rattle.skills_rating.specs.Constants.{still_visible, still_hidden, still_base, ar_factor_end_point, aim_start, speed_start, easy_mechanical, hard_mechanical}
use Rattle.skills_rating.specs.declared.mods.Mods.{Mods}
use Rattle.skills_rating.specs.declared.OsuRatingCalculator.{OsuRatingCalculator}

-- `OsuRatingCalculator::new`
abbrev pub new_calculator : Mods → ℕ → Float → Float → Float → Float → OsuRatingCalculator
new_calculator m hits rate difficulty mechanical slider = record {
  mods = m;
  total_hits = hits;
  approach_rate = rate;
  overall_difficulty = difficulty;
  mechanical_difficulty_rating = mechanical;
  slider_factor = slider;
}

-- "Cube roots are Power with the f64 nearest to one third"
unfoldable pub cbrt_of : Float → Float
cbrt_of x = power_of x third

-- a number of objects as an f64
abbrev pub counted : ℕ → Float
counted n = Ieee.of_int binary64 (pos n)

-- `f64::from(u8::from(total_hits > most))`
unfoldable pub above : ℕ → ℕ → Float
above hits most = cond (ltb most hits) one64 zero64

-- ---- what the mods leave of a rating

unfoldable pub touched : Mods → Float → Float
touched m rating = cond m.touch_device (power_of rating touch_exponent) rating

-- times a number where a mod is on
unfoldable pub scaled_if : Bool → Float → Float → Float
scaled_if on by rating = cond on (rating ⊗ by) rating

-- by a strength, where there is one
unfoldable pub attracted_by : (Float → Float) → Option Float → Float → Float
attracted_by share None rating = rating
attracted_by share (Some strength) rating = rating ⊗ (one64 ⊖ share strength)

unfoldable pub attracted : Mods → Float → Float
attracted m = attracted_by (λ strength. strength) m.attraction

unfoldable pub speed_attracted : Mods → Float → Float
speed_attracted m = attracted_by (λ strength. strength ⊗ speed_attraction) m.attraction

unfoldable pub helped : Mods → Float → Float
helped m rating = cond m.relax (rating ⊗ relax_flashlight) (scaled_if m.autopilot autopilot_flashlight rating)

-- by a start scale, where there is one
unfoldable pub deflated_by : Option Float → Float → Float
deflated_by None rating = rating
deflated_by (Some scale) rating = rating ⊗ clamp_of (reverse_lerp scale full_scale one64) least_share one64

unfoldable pub deflated : Mods → Float → Float
deflated m = deflated_by m.start_scale

-- ---- factors

-- of both approach rate factors
unfoldable pub ar_length_bonus : ℕ → Float
ar_length_bonus hits =
    let share = counted hits ⊘ long_length in
    length_base ⊕ length_share ⊗ min_of share one64 ⊕ above hits 2000 ⊗ log10_of share ⊗ half64

-- of the flashlight rating
unfoldable pub length_factor : ℕ → Float
length_factor hits =
    short_base ⊕ short_share ⊗ min_of (counted hits ⊘ short_length) one64
    ⊕ above hits 200 ⊗ short_more ⊗ min_of (counted (hits - 200) ⊘ short_length) one64

unfoldable pub aim_ar_factor : Bool → Float → Float
aim_ar_factor relax rate =
    cond relax zero64
    (cond (Ieee.lt high_rate rate) (high_share ⊗ (rate ⊖ high_rate))
    (cond (Ieee.lt rate low_rate) (low_share ⊗ (low_rate ⊖ rate)) zero64))

unfoldable pub speed_ar_factor : Bool → Float → Float
speed_ar_factor autopilot rate = cond autopilot zero64 (cond (Ieee.lt high_rate rate) (high_share ⊗ (rate ⊖ high_rate)) zero64)

-- of the overall difficulty
unfoldable pub accuracy_factor : Float → Float → Float → Float
accuracy_factor base scale difficulty = base ⊕ power_of (max_of difficulty zero64) two64 ⊘ scale

-- ---- visibility

-- from rate 7 down to 0
unfoldable pub below_slow : Float → Float → Bool → Float → Float
below_slow bonus rate visible slider =
    cond (Ieee.lt rate slow_rate) (bonus ⊕ cond visible slow_visible slow_hidden ⊗ (slow_rate ⊖ max_of rate zero64) ⊗ slider) bonus

-- below rate 0
unfoldable pub below_zero : Float → Float → Bool → Float → Float
below_zero bonus rate visible slider =
    cond (Ieee.lt rate zero64) (bonus ⊕ cond visible still_visible still_hidden ⊗ (one64 ⊖ power_of still_base rate) ⊗ slider) bonus

-- `calculate_visibility_bonus`
unfoldable pub calculate_visibility_bonus : Mods → Float → Float → Float → Float
calculate_visibility_bonus m rate visibility slider =
    let visible = m.fade_only || m.traceable in
    let cube = power_of slider three64 in
    below_zero (below_slow (reading_share ⊗ (reading_rate ⊖ max_of rate slow_rate) ⊗ visibility) rate visible cube) rate visible cube

-- `calculate_aim_visibility_factor` and `calculate_speed_visibility_factor` differ in their starting point
unfoldable pub visibility_factor : Float → Float → Float → Float
visibility_factor start mechanical rate =
    reverse_lerp rate ar_factor_end_point (lerp start high_rate (reverse_lerp mechanical easy_mechanical hard_mechanical))

abbrev pub calculate_aim_visibility_factor : Float → Float → Float
calculate_aim_visibility_factor = visibility_factor aim_start

abbrev pub calculate_speed_visibility_factor : Float → Float → Float
calculate_speed_visibility_factor = visibility_factor speed_start

-- ---- ratings

-- `calculate_difficulty_rating`
unfoldable pub calculate_difficulty_rating : Float → Float
calculate_difficulty_rating total = root_of binary64 total ⊗ difficulty_multiplier

-- a multiplier from 1 on, with what hidden adds to it
unfoldable pub aim_multiplier : OsuRatingCalculator → Float
aim_multiplier c =
    let m = c.mods in
    let rate = c.approach_rate in
    let plain = one64 ⊕ aim_ar_factor m.relax rate ⊗ ar_length_bonus c.total_hits in
    let factor = calculate_aim_visibility_factor c.mechanical_difficulty_rating rate in
    cond m.hidden (plain ⊕ calculate_visibility_bonus m rate factor c.slider_factor) plain
    ⊗ accuracy_factor aim_accuracy aim_accuracy_scale c.overall_difficulty

unfoldable pub speed_multiplier : OsuRatingCalculator → Float
speed_multiplier c =
    let m = c.mods in
    let rate = c.approach_rate in
    let plain = one64 ⊕ speed_ar_factor m.autopilot rate ⊗ ar_length_bonus c.total_hits in
    let factor = calculate_speed_visibility_factor c.mechanical_difficulty_rating rate in
    cond m.hidden (plain ⊕ calculate_visibility_bonus m rate factor one64) plain
    ⊗ accuracy_factor speed_accuracy speed_accuracy_scale c.overall_difficulty

unfoldable pub flashlight_multiplier : OsuRatingCalculator → Float
flashlight_multiplier c =
    one64 ⊗ length_factor c.total_hits ⊗ accuracy_factor aim_accuracy aim_accuracy_scale c.overall_difficulty

-- `compute_aim_rating`
unfoldable pub compute_aim_rating : OsuRatingCalculator → Float → Float
compute_aim_rating c total =
    let m = c.mods in
    cond m.autopilot zero64
    (attracted m (scaled_if m.relax relax_aim (touched m (calculate_difficulty_rating total))) ⊗ cbrt_of (aim_multiplier c))

-- `compute_speed_rating`
unfoldable pub compute_speed_rating : OsuRatingCalculator → Float → Float
compute_speed_rating c total =
    let m = c.mods in
    cond m.relax zero64
    (speed_attracted m (scaled_if m.autopilot half64 (calculate_difficulty_rating total)) ⊗ cbrt_of (speed_multiplier c))

-- `compute_flashlight_rating`
unfoldable pub compute_flashlight_rating : OsuRatingCalculator → Float → Float
compute_flashlight_rating c total =
    let m = c.mods in
    cond (not m.flashlight) zero64
    (deflated m (attracted m (helped m (touched m (calculate_difficulty_rating total)))) ⊗ root_of binary64 (flashlight_multiplier c))
