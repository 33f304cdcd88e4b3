-- What osu/difficulty/mod.rs makes of the totals, in its order of operations. Definitions only.
use Rattle.std.specs.Prelude.{ℕ, Bool, Option, Some, None, true, cond, ◌&&◌, Float}
use Rattle.std.specs.Float.Ieee as Ieee
use Rattle.std.specs.Float.Ieee.Scale.{finite}
use Rattle.num_floats.specs.Numbers.{◌⊕◌, ◌⊖◌, ◌⊗◌, ◌⊘◌, zero64, one64, two64, three64}
use Rattle.num_floats.specs.Compare.{max_of}
use Rattle.num_elementary.specs.Power.{power_of}
use Rattle.skills_rating.specs.Constants.{difficulty_multiplier}
use Rattle.skills_rating.specs.Rating.{new_calculator, cbrt_of, calculate_difficulty_rating, compute_aim_rating, compute_speed_rating, compute_flashlight_rating}
use Rattle.skills_rating.specs.declared.OsuRatingCalculator.{OsuRatingCalculator}
use Rattle.skills.specs.declared.Skills.{Skills}
use Rattle.skills_stars.specs.Constants.{star_rating_multiplier, least_performance, performance_scale, performance_slope, performance_offset, flashlight_scale, joining_power}
use Rattle.skills_stars.specs.declared.Asked.{Asked}
use Rattle.skills_stars.specs.declared.Ratings.{Ratings}

-- skills/strain.rs, `difficulty_to_performance`
unfoldable pub difficulty_to_performance : Float → Float
difficulty_to_performance rating =
    power_of (performance_slope ⊗ max_of one64 (rating ⊘ difficulty_multiplier) ⊖ performance_offset) three64 ⊘ performance_scale

-- skills/flashlight.rs, `difficulty_to_performance`
unfoldable pub flashlight_to_performance : Float → Float
flashlight_to_performance rating = flashlight_scale ⊗ power_of rating two64

-- 1/1.1
abbrev pub joining_root : Float
joining_root = one64 ⊘ joining_power

-- `calculate_star_rating`; the base multiplier comes with the call
unfoldable pub calculate_star_rating : Float → Float → Float
calculate_star_rating performance base =
    cond (Ieee.le performance least_performance) zero64
    (cbrt_of base ⊗ star_rating_multiplier ⊗ (cbrt_of (performance_scale ⊘ power_of two64 joining_root ⊗ performance) ⊕ performance_offset))

-- `calculate_mechanical_difficulty_rating`
unfoldable pub calculate_mechanical_difficulty_rating : Float → Float → Float → Float
calculate_mechanical_difficulty_rating aim speed base =
    let aimValue = difficulty_to_performance (calculate_difficulty_rating aim) in
    let speedValue = difficulty_to_performance (calculate_difficulty_rating speed) in
    calculate_star_rating (power_of (power_of aimValue joining_power ⊕ power_of speedValue joining_power) joining_root) base

-- ---- of `eval`

-- the slider factor
unfoldable pub slider_factor : Float → Float → Float
slider_factor aim noSliders = cond (Ieee.lt zero64 aim) (calculate_difficulty_rating noSliders ⊘ calculate_difficulty_rating aim) one64

-- the base performance of the three ratings
unfoldable pub base_performance : Float → Float → Float → Float
base_performance aim speed flashlight =
    power_of
    (power_of (difficulty_to_performance aim) joining_power
    ⊕ power_of (difficulty_to_performance speed) joining_power
    ⊕ power_of (flashlight_to_performance flashlight) joining_power)
    joining_root

-- the calculator of a chart's totals and its number of objects
unfoldable pub calculator_of : Skills → ℕ → Asked → OsuRatingCalculator
calculator_of totals n asked =
    new_calculator asked.mods n asked.approach_rate asked.overall_difficulty
    (calculate_mechanical_difficulty_rating totals.aim totals.speed asked.base_multiplier)
    (slider_factor totals.aim totals.aim_no_sliders)

-- "The answer is the aim, speed and flashlight ratings, then the stars"
unfoldable pub ratings_of : Skills → ℕ → Asked → Ratings
ratings_of totals n asked =
    let by = calculator_of totals n asked in
    let aim = compute_aim_rating by totals.aim in
    let speed = compute_speed_rating by totals.speed in
    let flashlight = compute_flashlight_rating by totals.flashlight in
    record { aim = aim; speed = speed; flashlight = flashlight; stars = calculate_star_rating (base_performance aim speed flashlight) asked.base_multiplier }

-- an absent number isn't read
unfoldable pub finite_if : Option Float → Bool
finite_if None = true
finite_if (Some x) = finite x

-- "If any float that comes with the call isn't finite (an absent one isn't read)": this is their being finite
unfoldable pub finite_asked : Asked → Bool
finite_asked asked =
    let m = asked.mods in
    finite asked.approach_rate && finite asked.overall_difficulty && finite asked.base_multiplier
    && finite_if m.attraction && finite_if m.start_scale
