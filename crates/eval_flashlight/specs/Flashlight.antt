-- evaluators/flashlight.rs, in its order of operations, over a view: what stands k places back. Definitions only.
use Rattle.std.specs.Prelude.{ℕ, zero, suc, ◌+◌, ◌-◌, min, Bool, cond, ◌&&◌, ltb, eqb, pos, Float}
use Rattle.std.specs.Float.Ieee as Ieee
use Rattle.std.specs.Float.{binary64}
use Rattle.num_floats.specs.Numbers.{◌⊕◌, ◌⊖◌, ◌⊗◌, ◌⊘◌, zero64, half64, one64, two64}
use Rattle.num_floats.specs.Compare.{max_of, min_of, abs_of}
use Rattle.num_elementary.specs.Power.{power_of}
use Rattle.chart_opening.specs.declared.Settings.{Settings}
use Rattle.osu_pos.specs.Pos.{◌-ₚ◌, length_of}
use Rattle.osu_pos.specs.declared.Pos.{Pos}
use Rattle.osu_object.specs.Osu.{Object}
use Rattle.osu_object.specs.Base.{end_of, repeats_of}
use Rattle.osu_difficulty_object.specs.declared.OsuDifficultyObject.{OsuDifficultyObject}
use Rattle.osu_difficulty_object.specs.Reading.{opacity_at}
use Rattle.osu_records.specs.Sight.{View, view_of}
use Rattle.osu_records.specs.declared.Sight.{Sight}
use Rattle.eval_flashlight.specs.Constants.{scaled_radius, max_opacity_bonus, hidden_bonus, min_velocity, slider_multiplier, min_angle_multiplier}
use Rattle.eval_flashlight.specs.Constants.{seen_dist, stack_dist, same_angle, repeat_loss, history}
use Rattle.eval_flashlight.specs.declared.FlashlightEvaluator.{FlashlightEvaluator}
use Rattle.eval_flashlight.specs.declared.FlashlightState.{FlashlightState}

-- a count as an f64
abbrev pub counted : ℕ → Float
counted n = Ieee.of_int binary64 (pos n)

-- `FlashlightEvaluator::new`
abbrev pub new_evaluator : Float → Float → Float → FlashlightEvaluator
new_evaluator scaling preempt fade_in = record { scaling_factor = scaling; time_preempt = preempt; time_fade_in = fade_in }

-- as skills/flashlight.rs makes it; preempt and fade-in are the header's
unfoldable pub evaluator_of : Settings → FlashlightEvaluator
evaluator_of set = new_evaluator (scaled_radius ⊘ set.radius) set.preempt set.fade_in

-- ---- one turn of the loop

-- how visible the object that starts at `start` is at `time`
unfoldable pub opacity_bonus : FlashlightEvaluator → Float → Float → Bool → Float
opacity_bonus e start time hidden = one64 ⊕ max_opacity_bonus ⊗ (one64 ⊖ opacity_at start time hidden e.time_preempt e.time_fade_in)

-- of the nearest object alone
unfoldable pub small_dist_nerf : Float → Float → ℕ → Float
small_dist_nerf old jump i = cond (eqb i 0) (min_of (jump ⊘ seen_dist) one64) old

-- what is added to the result; `time` is the cumulative strain time
unfoldable pub added_of : FlashlightEvaluator → Float → Float → Float → Float → Float
added_of e lazyJump jump opacity time =
    let stackNerf = min_of (lazyJump ⊘ e.scaling_factor ⊘ stack_dist) one64 in
    stackNerf ⊗ opacity ⊗ e.scaling_factor ⊗ jump ⊘ time

-- the count of repeated angles
unfoldable pub repeated_of : Float → OsuDifficultyObject → OsuDifficultyObject → ℕ → Float
repeated_of count obj curr i =
    cond (obj.has_angle && curr.has_angle)
    (cond (Ieee.lt (abs_of (obj.angle ⊖ curr.angle)) same_angle)
    (count ⊕ max_of (one64 ⊖ repeat_loss ⊗ counted i) zero64)
    count)
    count

-- before the first turn
unfoldable pub fresh_state : FlashlightState
fresh_state = record { small_dist_nerf = one64; cumulative_strain_time = zero64; result = zero64; angle_repeat_count = zero64 }

-- turn i: `obj` stands i + 1 places back and ends at `end`, `last` is the record after it
unfoldable pub step_of : FlashlightEvaluator → FlashlightState → Sight → OsuDifficultyObject → Sight → Pos → ℕ → Bool → FlashlightState
step_of e s curr last obj end i hidden =
    let time = s.cumulative_strain_time ⊕ last.adjusted_delta_time in
    let jump = length_of (curr.base.pos -ₚ end) in
    let opacity = opacity_bonus e curr.base.start_time obj.base.start_time hidden in
    cond obj.base.spinner
    (record {
      small_dist_nerf = s.small_dist_nerf;
      cumulative_strain_time = time;
      result = s.result;
      angle_repeat_count = s.angle_repeat_count;
    })
    (record {
      small_dist_nerf = small_dist_nerf s.small_dist_nerf jump i;
      cumulative_strain_time = time;
      result = s.result ⊕ added_of e obj.diff.lazy_jump_dist jump opacity time;
      angle_repeat_count = repeated_of s.angle_repeat_count obj.diff curr.diff i;
    })

-- after turns 0 to n - 1; in turn i `previous(i)` stands i + 1 places back
unfoldable pub turns_of : FlashlightEvaluator → View → (ℕ → Pos) → Bool → ℕ → FlashlightState
turns_of e v ends hidden zero = fresh_state
turns_of e v ends hidden (suc i) = step_of e (turns_of e v ends hidden i) (v 0) (v i).diff (v (i + 1)) (ends (i + 1)) i hidden

-- ---- after the loop

unfoldable pub hidden_of : Float → Bool → Float
hidden_of result hidden = cond hidden (result ⊗ (one64 ⊕ hidden_bonus)) result

-- less for a slider with repeats
unfoldable pub shared_of : Float → ℕ → Float
shared_of bonus repeats = cond (ltb 0 repeats) (bonus ⊘ counted (repeats + 1)) bonus

unfoldable pub slider_bonus : FlashlightEvaluator → OsuDifficultyObject → Bool → ℕ → Float
slider_bonus e curr slider repeats =
    let dist = curr.lazy_travel_dist ⊘ e.scaling_factor in
    let above = max_of (dist ⊘ curr.travel_time ⊖ min_velocity) zero64 in
    cond slider (shared_of (power_of above half64 ⊗ dist) repeats) zero64

unfoldable pub value_of : FlashlightEvaluator → FlashlightState → OsuDifficultyObject → Bool → ℕ → Bool → Float
value_of e s curr slider repeats hidden =
    hidden_of (power_of (s.small_dist_nerf ⊗ s.result) two64) hidden
    ⊗ (min_angle_multiplier ⊕ (one64 ⊖ min_angle_multiplier) ⊘ (s.angle_repeat_count ⊕ one64))
    ⊕ slider_bonus e curr slider repeats ⊗ slider_multiplier

-- `evaluate_diff_of`, where `before` records precede: with where the objects end, k places back, and how many repeats the current one has
unfoldable pub flashlight_of : FlashlightEvaluator → View → (ℕ → Pos) → ℕ → ℕ → Bool → Float
flashlight_of e v ends repeats before hidden =
    cond (v 0).base.spinner zero64
    (value_of e (turns_of e v ends hidden (min before history)) (v 0).diff (v 0).base.slider repeats hidden)

-- where the objects end, from place j back
abbrev pub ends_of : (ℕ → Object) → ℕ → ℕ → Pos
ends_of os j = λ k. end_of (os (j - k))

-- at place j of objects and their records: the walk's first turns, and the value
abbrev pub turns_at_place : FlashlightEvaluator → (ℕ → Object) → (ℕ → OsuDifficultyObject) → ℕ → Bool → ℕ → FlashlightState
turns_at_place e os rs j hidden n = turns_of e (view_of os rs j) (ends_of os j) hidden n

abbrev pub flashlight_at_place : FlashlightEvaluator → (ℕ → Object) → (ℕ → OsuDifficultyObject) → ℕ → Bool → Float
flashlight_at_place e os rs j hidden = flashlight_of e (view_of os rs j) (ends_of os j) (repeats_of (os j)) (j - 1) hidden
