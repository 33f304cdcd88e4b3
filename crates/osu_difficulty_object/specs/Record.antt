-- The object record, from the settings and three objects: `OsuDifficultyObject::new` and `set_distances` of src/osu/difficulty/object.rs.
use Rattle.std.specs.Prelude.{ℕ, ◌-◌, min, Option, Some, None, false, cond, not, ◌&&◌, ◌||◌, List, ltb, pos, Float}
use Rattle.std.specs.Option.{is_some, unwrap_or}
use Rattle.std.specs.Float.Ieee as Ieee
use Rattle.std.specs.Float.{binary64}
use Rattle.num_floats.specs.Numbers.{f32, ◌⊕◌, ◌⊖◌, ◌⊗◌, ◌⊘◌, zero64, one64}
use Rattle.num_floats.specs.Compare.{max_of, min_of}
use Rattle.num_elementary.specs.Power.{power_of}
use Rattle.num_angle.specs.Float.{angle_of}
use Rattle.chart_fields.specs.declared.Layout.{Layout}
use Rattle.chart_opening.specs.declared.Settings.{Settings}
use Rattle.osu_pos.specs.declared.Pos.{Pos}
use Rattle.osu_pos.specs.Pos.{◌⊖₃◌, ◌⊗₃◌, ◌+ₚ◌, ◌-ₚ◌, ◌*ₚ◌, dot_of, det_of, length_of}
use Rattle.osu_object.specs.Osu.{Object, object_of, is_slider, is_spinner, stacked_pos, tail_of, repeat_count}
use Rattle.osu_object.specs.declared.OsuObject.{OsuObject}
use Rattle.osu_object.specs.declared.OsuObjectKind.{OsuObjectKind}
use Rattle.osu_object.specs.declared.OsuObjectKind.TheVariants.{Circle, Spinner, Slider}
use Rattle.osu_difficulty_object.specs.Constants.{max_slider_radius, assumed_slider_radius, min_delta_time, small_radius, small_radius_scale, repeat_scale}
use Rattle.osu_difficulty_object.specs.Cursor.{slider_cursor}
use Rattle.osu_difficulty_object.specs.declared.Placed.{Placed}
use Rattle.osu_difficulty_object.specs.declared.Travel.{Travel}
use Rattle.osu_difficulty_object.specs.declared.Jump.{Jump}
use Rattle.osu_difficulty_object.specs.declared.Distances.{Distances}
use Rattle.osu_difficulty_object.specs.declared.OsuDifficultyObject.{OsuDifficultyObject}

-- ---- what records take from one object

abbrev pub zero_pos : Pos
zero_pos = record { x = f32 0; y = f32 0 }

-- no slider: there is no cursor to follow
unfoldable pub plain_of : OsuObject → Placed
plain_of base = record {
  base = base;
  cursor = record { has_lazy_end = false; lazy_end = zero_pos; lazy_travel_dist = zero64; lazy_travel_time = zero64 };
  tail = zero_pos;
  repeats = 0;
}

-- a slider
unfoldable pub slid_of : Float → Object → Float → Float → Placed
slid_of radius o end spans = record {
  base = o.base;
  cursor = slider_cursor o.base end spans o.nested o.points radius;
  tail = tail_of o.nested;
  repeats = repeat_count o.nested;
}

abbrev pub placed_by : OsuObjectKind → Float → Object → Placed
placed_by Circle radius o = plain_of o.base
placed_by Spinner radius o = plain_of o.base
placed_by (Slider end spans) radius o = slid_of radius o end spans

unfoldable pub placed_of : Float → Object → Placed
placed_of radius o = placed_by o.base.kind radius o

-- ---- travel: "A slider's travel time is at least 25, others' 0."

unfoldable pub travel_of : Placed → Float → Travel
travel_of o rate =
    cond (is_slider o.base.kind)
    (record {
      dist =
          o.cursor.lazy_travel_dist
          ⊗ power_of (one64 ⊕ Ieee.of_int binary64 (pos o.repeats) ⊘ repeat_scale) (one64 ⊘ repeat_scale);
      time = max_of (o.cursor.lazy_travel_time ⊘ rate) min_delta_time;
    })
    (record { dist = zero64; time = zero64 })

-- ---- jumps

-- where the cursor leaves an object: `get_end_cursor_pos`
unfoldable pub end_cursor : Placed → Pos
end_cursor o = cond o.cursor.has_lazy_end o.cursor.lazy_end (stacked_pos o.base)

-- where it comes from: the object at place 0 has no record, so no lazy end
unfoldable pub last_cursor : ℕ → Placed → Pos
last_cursor j last = cond (ltb j 2) (stacked_pos last.base) (end_cursor last)

unfoldable pub jump_dist : OsuObject → Pos → Float → Float
jump_dist base from factor = length_of (stacked_pos base *ₚ factor -ₚ from *ₚ factor)

-- from a slider: less its travel time, and never under the least
unfoldable pub min_jump_time : Float → Float → Float → Float
min_jump_time adjusted lazy rate = max_of (adjusted ⊖ max_of (lazy ⊘ rate) min_delta_time) min_delta_time

-- from a slider: the shorter of the ways from its lazy end and from its tail, each less what the follow circle spares
unfoldable pub min_jump_dist : OsuObject → Pos → Float → Float → Float
min_jump_dist base tail factor lazy =
    max_of
    (min_of (lazy ⊖ (max_slider_radius ⊖₃ assumed_slider_radius)) (length_of (tail -ₚ stacked_pos base) ⊗₃ factor ⊖₃ max_slider_radius))
    zero64

unfoldable pub slider_jump : Settings → Float → OsuObject → Placed → Float → Jump
slider_jump set adjusted base last lazy = record {
  lazy_dist = lazy;
  min_dist = min_jump_dist base (last.tail +ₚ last.base.stack_offset) set.factor lazy;
  min_time = min_jump_time adjusted last.cursor.lazy_travel_time set.clock_rate;
}

unfoldable pub jump_from : Settings → ℕ → Float → OsuObject → Placed → Float → Jump
jump_from set j adjusted base last lazy =
    cond (ltb 1 j && is_slider last.base.kind) (slider_jump set adjusted base last lazy)
    (record { lazy_dist = lazy; min_dist = lazy; min_time = adjusted })

-- no jump is counted to or from a spinner
unfoldable pub jump_of : Settings → ℕ → Float → Placed → Placed → Jump
jump_of set j adjusted o last =
    cond (is_spinner o.base.kind || is_spinner last.base.kind) (record { lazy_dist = zero64; min_dist = zero64; min_time = zero64 })
    (jump_from set j adjusted o.base last (jump_dist o.base (last_cursor j last) set.factor))

-- ---- the angle

unfoldable pub angle_to : OsuObject → Pos → Pos → Pos → Float
angle_to base lastPos from before =
    let v1 = before -ₚ lastPos in
    let v2 = stacked_pos base -ₚ from in
    angle_of (dot_of v1 v2) (det_of v1 v2)

-- "exactly when j ≥ 3 and objects j, j-1, j-2 aren't spinners"
unfoldable pub turn_of : ℕ → Placed → Placed → Placed → Option Float
turn_of j o last before =
    cond (ltb 2 j && not (is_spinner o.base.kind) && not (is_spinner last.base.kind) && not (is_spinner before.base.kind))
    (Some (angle_to o.base (stacked_pos last.base) (last_cursor j last) (end_cursor before)))
    None

-- `set_distances`
abbrev pub distances_of : Settings → ℕ → Float → Placed → Placed → Placed → Distances
distances_of set j adjusted o last before = record {
  travel = travel_of o set.clock_rate;
  jump = jump_of set j adjusted o last;
  angle = turn_of j o last before;
}

-- ---- the record: "Adjusted time is at least 25."

abbrev pub delta_of : Settings → Placed → Placed → Float
delta_of set o last = (o.base.start_time ⊖ last.base.start_time) ⊘ set.clock_rate

abbrev pub adjusted_of : Settings → Placed → Placed → Float
adjusted_of set o last = max_of (delta_of set o last) min_delta_time

abbrev pub small_circle_bonus : Float → Float
small_circle_bonus radius = max_of (one64 ⊕ (small_radius ⊖ radius) ⊘ small_radius_scale) one64

unfoldable pub new_record : Settings → ℕ → Placed → Placed → Placed → OsuDifficultyObject
new_record set j o last before =
    let travel = travel_of o set.clock_rate in
    let jump = jump_of set j (adjusted_of set o last) o last in
    let turn = turn_of j o last before in
    record {
      start_time = o.base.start_time ⊘ set.clock_rate;
      delta_time = delta_of set o last;
      adjusted_delta_time = adjusted_of set o last;
      lazy_jump_dist = jump.lazy_dist;
      min_jump_dist = jump.min_dist;
      min_jump_time = jump.min_time;
      travel_dist = travel.dist;
      travel_time = travel.time;
      lazy_end_x = o.cursor.lazy_end.x;
      lazy_end_y = o.cursor.lazy_end.y;
      lazy_travel_dist = o.cursor.lazy_travel_dist;
      lazy_travel_time = o.cursor.lazy_travel_time;
      angle = unwrap_or turn zero64;
      small_circle_bonus = small_circle_bonus set.radius;
      has_lazy_end = o.cursor.has_lazy_end;
      has_angle = is_some turn;
    }

-- from the objects at a place and the two before it; of the place's number k only 1, 2 and 3 or more are told apart
unfoldable pub record_of : Settings → ℕ → Object → Object → Object → OsuDifficultyObject
record_of set k o last before = new_record set k (placed_of set.radius o) (placed_of set.radius last) (placed_of set.radius before)

-- the record of place j of a chart, worked out afresh
unfoldable pub chart_record : List ℕ → Layout → Settings → ℕ → OsuDifficultyObject
chart_record s lay set j = record_of set (min j 3) (object_of s lay j) (object_of s lay (j - 1)) (object_of s lay (j - 2))
