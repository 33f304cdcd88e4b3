-- evaluators/aim.rs, in its order of operations, over a view: what stands k places back. Definitions only.
use Rattle.std.specs.Prelude.{ℕ, ◌-◌, Bool, cond, ◌&&◌, ◌||◌, ltb, leb, Float}
use Rattle.std.specs.Float.Ieee as Ieee
use Rattle.num_floats.specs.Numbers.{◌⊕◌, ◌⊖◌, ◌⊗◌, ◌⊘◌, zero64, one64, two64, three64}
use Rattle.num_floats.specs.Compare.{max_of, min_of, abs_of}
use Rattle.num_elementary.specs.Power.{power_of}
use Rattle.num_angle.specs.Float.{radians_of}
use Rattle.num_util.specs.Difficulty.{milliseconds_to_bpm, reverse_lerp, smoothstep, smootherstep}
use Rattle.num_util.specs.FloatExt.{not_eq}
use Rattle.osu_pos.specs.declared.Pos.{Pos}
use Rattle.osu_pos.specs.Pos.{◌⊖₃◌, ◌-ₚ◌, length_of}
use Rattle.osu_object.specs.Osu.{Object}
use Rattle.osu_difficulty_object.specs.declared.OsuDifficultyObject.{OsuDifficultyObject}
use Rattle.osu_difficulty_object.specs.Constants.{normalized_radius}
use Rattle.osu_records.specs.Sight.{View, view_of}
use Rattle.osu_records.specs.declared.Sight.{Sight}
use Rattle.eval_aim.specs.Constants.{diameter, two_diameters, three_diameters, wide_angle_multiplier, acute_angle_multiplier, slider_multiplier}
use Rattle.eval_aim.specs.Constants.{velocity_change_multiplier, wiggle_multiplier, five_quarters, acute_kept, acute_lost, acute_bpm, full_acute_bpm}
use Rattle.eval_aim.specs.Constants.{wiggle_power, acute_degrees, wide_degrees, wiggle_degrees, full_wiggle_degrees, close_loss, zero32, one32}
use Rattle.eval_aim.specs.declared.AngleBonus.{AngleBonus}
use Rattle.eval_aim.specs.declared.AimRule.{AimRule}
use Rattle.eval_aim.specs.declared.AimRule.TheVariants.{TooFew, Spinner, Acute, Wide}
use Rattle.eval_aim.specs.declared.AimParts.{AimParts}

-- the velocity to an object, through the one before it where that is a slider
unfoldable pub velocity_of : OsuDifficultyObject → OsuDifficultyObject → Bool → Float
velocity_of curr last slider =
    let v = curr.lazy_jump_dist ⊘ curr.adjusted_delta_time in
    let travel = last.travel_dist ⊘ last.travel_time in
    let movement = curr.min_jump_dist ⊘ curr.min_jump_time in
    cond slider (max_of v (movement ⊕ travel)) v

-- ---- the angles

-- `calc_wide_angle_bonus`
unfoldable pub wide_angle : Float → Float
wide_angle angle = smoothstep angle (radians_of acute_degrees) (radians_of wide_degrees)

-- `calc_acute_angle_bonus`
unfoldable pub acute_angle : Float → Float
acute_angle angle = smoothstep angle (radians_of wide_degrees) (radians_of acute_degrees)

-- less for a repeated angle
unfoldable pub acute_repeated : Float → Float → Float
acute_repeated bonus last = bonus ⊗ (acute_kept ⊕ acute_lost ⊗ (one64 ⊖ min_of bonus (power_of (acute_angle last) three64)))

-- only where rhythms are the same; a beat has two parts here
unfoldable pub acute_of : OsuDifficultyObject → OsuDifficultyObject → Float → Float
acute_of curr last base =
    let a = curr.adjusted_delta_time in
    let b = last.adjusted_delta_time in
    let fast = smootherstep (milliseconds_to_bpm a two64) acute_bpm full_acute_bpm in
    let far = smootherstep curr.lazy_jump_dist diameter two_diameters in
    cond (Ieee.lt (max_of a b) (five_quarters ⊗ min_of a b)) (acute_repeated (acute_angle curr.angle) last.angle ⊗ (base ⊗ fast ⊗ far)) zero64

unfoldable pub wide_of : OsuDifficultyObject → OsuDifficultyObject → Float → Float
wide_of curr last base =
    let x = wide_angle curr.angle in
    x ⊗ (one64 ⊖ min_of x (power_of (wide_angle last.angle) three64)) ⊗ (base ⊗ smootherstep curr.lazy_jump_dist zero64 diameter)

unfoldable pub wiggle_of : OsuDifficultyObject → OsuDifficultyObject → Float → Float
wiggle_of curr last base =
    base ⊗ smootherstep curr.lazy_jump_dist normalized_radius diameter
    ⊗ power_of (reverse_lerp curr.lazy_jump_dist three_diameters diameter) wiggle_power
    ⊗ smootherstep curr.angle (radians_of wiggle_degrees) (radians_of full_wiggle_degrees)
    ⊗ smootherstep last.lazy_jump_dist normalized_radius diameter
    ⊗ power_of (reverse_lerp last.lazy_jump_dist three_diameters diameter) wiggle_power
    ⊗ smootherstep last.angle (radians_of wiggle_degrees) (radians_of full_wiggle_degrees)

-- the distance of the object two before the last from the last, where there is one; it is an f32
unfoldable pub spacing_of : Bool → Pos → Pos → Float
spacing_of has far last = cond has (length_of (far -ₚ last)) zero32

-- less for a wide angle whose ends lie within 1 of each other
unfoldable pub close_of : Float → Bool → Float → Float
close_of wide has distance = cond has (cond (Ieee.lt distance one32) (wide ⊗ (one64 ⊖ close_loss ⊗ (one32 ⊖₃ distance))) wide) wide

abbrev pub no_bonus : AngleBonus
no_bonus = record { wide = zero64; acute = zero64; wiggle = zero64 }

unfoldable pub angles_of : OsuDifficultyObject → OsuDifficultyObject → Float → Bool → Float → AngleBonus
angles_of curr last base has distance =
    cond (curr.has_angle && last.has_angle)
    (record { wide = close_of (wide_of curr last base) has distance; acute = acute_of curr last base; wiggle = wiggle_of curr last base })
    no_bonus

-- ---- the velocity change

-- from the velocities over the whole objects
unfoldable pub change_of : Float → Float → Float → Float → Float
change_of prevVel currVel currTime lastTime =
    let diff = abs_of (prevVel ⊖ currVel) in
    let shorter = min_of currTime lastTime in
    let distRatio = smoothstep (diff ⊘ max_of prevVel currVel) zero64 one64 in
    let overlapVelBuff = min_of (diameter ⊗ five_quarters ⊘ shorter) diff in
    overlapVelBuff ⊗ distRatio ⊗ power_of (shorter ⊘ max_of currTime lastTime) two64

unfoldable pub vel_change : OsuDifficultyObject → OsuDifficultyObject → OsuDifficultyObject → Float → Float → Float
vel_change curr last lastLast currVel prevVel =
    cond (not_eq (max_of prevVel currVel) zero64)
    (change_of
    ((last.lazy_jump_dist ⊕ lastLast.travel_dist) ⊘ last.adjusted_delta_time)
    ((curr.lazy_jump_dist ⊕ last.travel_dist) ⊘ curr.adjusted_delta_time)
    curr.adjusted_delta_time
    last.adjusted_delta_time)
    zero64

unfoldable pub slider_bonus : OsuDifficultyObject → Bool → Float
slider_bonus last slider = cond slider (last.travel_dist ⊘ last.travel_time) zero64

-- ---- the value in parts

-- the two sides of the last max
abbrev pub acute_side : Float → Float
acute_side acute = acute ⊗ acute_angle_multiplier

abbrev pub wide_side : Float → Float
wide_side wide = wide ⊗ wide_angle_multiplier

-- the side that it takes: the acute one on equal values or two NaNs
unfoldable pub rule_of : Float → Float → AimRule
rule_of acute wide = cond (Ieee.ne acute acute) (cond (Ieee.ne wide wide) Acute Wide) (cond (Ieee.lt acute wide) Wide Acute)

-- the side that a rule names
unfoldable pub side_of : AimRule → Float → Float → Float
side_of TooFew acute wide = zero64
side_of Spinner acute wide = zero64
side_of Acute acute wide = acute
side_of Wide acute wide = wide

-- where a rule answers 0
unfoldable pub no_parts : AimRule → AimParts
no_parts rule = record {
  rule = rule;
  curr_vel = zero64;
  prev_vel = zero64;
  wide = zero64;
  acute = zero64;
  wiggle = zero64;
  vel_change = zero64;
  slider = zero64;
  small_circle_bonus = zero64;
}

unfoldable pub bonuses_of : Sight → Sight → Sight → Bool → Float → Bool → AimParts
bonuses_of curr last lastLast has distance sliders =
    let currVel = velocity_of curr.diff last.diff (last.base.slider && sliders) in
    let prevVel = velocity_of last.diff lastLast.diff (lastLast.base.slider && sliders) in
    let angles = angles_of curr.diff last.diff (min_of currVel prevVel) has distance in
    record {
      rule = rule_of (acute_side angles.acute) (wide_side angles.wide);
      curr_vel = currVel;
      prev_vel = prevVel;
      wide = angles.wide;
      acute = angles.acute;
      wiggle = angles.wiggle;
      vel_change = vel_change curr.diff last.diff lastLast.diff currVel prevVel;
      slider = slider_bonus last.diff last.base.slider;
      small_circle_bonus = curr.diff.small_circle_bonus;
    }

-- the Rust's last lines
unfoldable pub combine_of : AimParts → Bool → Float
combine_of p sliders =
    let strain =
    (p.curr_vel ⊕ p.wiggle ⊗ wiggle_multiplier ⊕ p.vel_change ⊗ velocity_change_multiplier
    ⊕ max_of (acute_side p.acute) (wide_side p.wide))
    ⊗ p.small_circle_bonus in
    cond sliders (strain ⊕ p.slider ⊗ slider_multiplier) strain

-- where no rule answers 0; `before` records precede, and the third of them is v 3
unfoldable pub all_parts : View → ℕ → Bool → AimParts
all_parts v before sliders =
    let has = leb 3 before in
    bonuses_of (v 0) (v 1) (v 2) has (spacing_of has (v 3).base.pos (v 1).base.pos) sliders

unfoldable pub parts_of : View → ℕ → Bool → AimParts
parts_of v before sliders =
    cond (ltb before 2) (no_parts TooFew)
    (cond ((v 0).base.spinner || (v 1).base.spinner) (no_parts Spinner)
    (all_parts v before sliders))

-- `evaluate_diff_of`: "Aim is 0 without two previous records, or if this or the last base is a spinner"
unfoldable pub aim_of : View → ℕ → Bool → Float
aim_of v before sliders =
    cond (ltb before 2) zero64
    (cond ((v 0).base.spinner || (v 1).base.spinner) zero64
    (combine_of (all_parts v before sliders) sliders))

-- at place j of objects and their records
abbrev pub parts_at_place : (ℕ → Object) → (ℕ → OsuDifficultyObject) → ℕ → Bool → AimParts
parts_at_place os rs j sliders = parts_of (view_of os rs j) (j - 1) sliders

abbrev pub aim_at_place : (ℕ → Object) → (ℕ → OsuDifficultyObject) → ℕ → Bool → Float
aim_at_place os rs j sliders = aim_of (view_of os rs j) (j - 1) sliders
