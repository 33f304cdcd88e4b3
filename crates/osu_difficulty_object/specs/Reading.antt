-- What evaluators ask of a record: `get_doubletapness` and `opacity_at` of src/osu/difficulty/object.rs.
use Rattle.std.specs.Prelude.{Bool, cond, not, Float}
use Rattle.std.specs.Float.Ieee as Ieee
use Rattle.num_floats.specs.Numbers.{◌⊕◌, ◌⊖◌, ◌⊗◌, ◌⊘◌, zero64, one64, two64}
use Rattle.num_floats.specs.Compare.{max_of, min_of, abs_of, clamp_of}
use Rattle.num_elementary.specs.Power.{power_of}
use Rattle.osu_difficulty_object.specs.Constants.{fade_out_multiplier}
use Rattle.osu_difficulty_object.specs.declared.OsuDifficultyObject.{OsuDifficultyObject}

-- a spinner has no window
unfoldable pub window_of : Bool → Float → Float
window_of spinner window = cond spinner zero64 window

unfoldable pub tapness_of : Float → Float → Float → Float
tapness_of delta next window =
    let curr = max_of delta one64 in
    let diff = abs_of (max_of next one64 ⊖ curr) in
    one64 ⊖ power_of (curr ⊘ max_of curr diff) (one64 ⊖ power_of (min_of (curr ⊘ window) one64) two64)

unfoldable pub doubletapness : OsuDifficultyObject → Bool → Bool → OsuDifficultyObject → Float → Float
doubletapness r spinner hasNext next window =
    cond (not hasNext) zero64 (tapness_of r.delta_time next.delta_time (window_of spinner window))

unfoldable pub fade_in : Float → Float → Float → Float → Float
fade_in start time preempt fade = clamp_of ((time ⊖ (start ⊖ preempt)) ⊘ fade) zero64 one64

unfoldable pub fade_out : Float → Float → Float → Float → Float
fade_out start time preempt fade = clamp_of ((time ⊖ (start ⊖ preempt ⊕ fade)) ⊘ (preempt ⊗ fade_out_multiplier)) zero64 one64

-- "at the start time is computed, above it 0"; times are the chart's, not divided by the clock rate
unfoldable pub opacity_at : Float → Float → Bool → Float → Float → Float
opacity_at start time hidden preempt fade =
    cond (Ieee.lt start time) zero64
    (cond hidden (min_of (fade_in start time preempt fade) (one64 ⊖ fade_out start time preempt fade)) (fade_in start time preempt fade))
