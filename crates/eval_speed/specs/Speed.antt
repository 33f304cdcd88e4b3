-- evaluators/speed.rs, in its order of operations. Definitions only.
use Rattle.std.specs.Prelude.{ℕ, ◌+◌, ◌-◌, Bool, cond, ltb, Float}
use Rattle.std.specs.Float.Ieee as Ieee
use Rattle.std.specs.Float.{binary64}
use Rattle.num_floats.specs.Numbers.{◌⊕◌, ◌⊖◌, ◌⊗◌, ◌⊘◌, zero64, one64, two64}
use Rattle.num_floats.specs.Compare.{min_of, clamp_of}
use Rattle.num_roots.specs.Root.{root_of}
use Rattle.num_elementary.specs.Power.{power_of}
use Rattle.num_util.specs.Difficulty.{default_delimiter, bpm_to_milliseconds, milliseconds_to_bpm}
use Rattle.osu_object.specs.Osu.{Object}
use Rattle.osu_difficulty_object.specs.Reading.{doubletapness}
use Rattle.osu_difficulty_object.specs.declared.OsuDifficultyObject.{OsuDifficultyObject}
use Rattle.osu_records.specs.Sight.{View, view_of}
use Rattle.eval_speed.specs.Constants.{single_spacing_threshold, min_speed_bonus, speed_balancing_factor, dist_multiplier, window_share, least_cap, bonus_scale, dist_exponent, second}

unfoldable pub strain_time : Float → Float → Float
strain_time adjusted window = adjusted ⊘ clamp_of (adjusted ⊘ window ⊘ window_share) least_cap one64

unfoldable pub speed_bonus : Float → Float
speed_bonus time =
    cond (Ieee.lt min_speed_bonus (milliseconds_to_bpm time default_delimiter))
    (bonus_scale ⊗ power_of ((bpm_to_milliseconds min_speed_bonus default_delimiter ⊖ time) ⊘ speed_balancing_factor) two64)
    zero64

unfoldable pub dist_bonus : Float → Float → Bool → Float
dist_bonus dist circle autopilot =
    cond autopilot zero64
    (power_of (min_of single_spacing_threshold dist ⊘ single_spacing_threshold) dist_exponent ⊗ dist_multiplier ⊗ root_of binary64 circle)

-- with the travel distance of the record before, and the next record where there is one
unfoldable pub speed_by : OsuDifficultyObject → Float → Bool → OsuDifficultyObject → Bool → Float → Bool → Float
speed_by curr travel hasNext next spinner window autopilot =
    let time = strain_time curr.adjusted_delta_time window in
    cond spinner zero64
    ((one64 ⊕ speed_bonus time ⊕ dist_bonus (travel ⊕ curr.min_jump_dist) curr.small_circle_bonus autopilot) ⊗ second ⊘ time
    ⊗ (one64 ⊖ doubletapness curr spinner hasNext next window))

-- the travel distance of the last record, 0 where none precede
abbrev pub travel_of : ℕ → OsuDifficultyObject → Float
travel_of before last = cond (ltb 0 before) last.travel_dist zero64

-- `evaluate_diff_of`, where `before` records precede
unfoldable pub speed_of : View → ℕ → Bool → OsuDifficultyObject → Float → Bool → Float
speed_of v before hasNext next window autopilot =
    speed_by (v 0).diff (travel_of before (v 1).diff) hasNext next (v 0).base.spinner window autopilot

-- at place j of objects and their records, of which `next` reaches those up to a last place
abbrev pub speed_at_place : (ℕ → Object) → (ℕ → OsuDifficultyObject) → ℕ → ℕ → Float → Bool → Float
speed_at_place os rs last j window autopilot = speed_of (view_of os rs j) (j - 1) (ltb j last) (rs (j + 1)) window autopilot
