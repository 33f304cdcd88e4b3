-- The constants of src/osu/difficulty/object.rs. Definitions only.
use Rattle.std.specs.Prelude.{pos, Float}
use Rattle.std.specs.Float.Ieee as Ieee
use Rattle.std.specs.Float.{binary32, binary64}
use Rattle.num_floats.specs.Numbers.{f32, f64}
use Rattle.osu_pos.specs.Pos.{◌⊗₃◌}

-- NORMALIZED_RADIUS as an f64
abbrev pub normalized_radius : Float
normalized_radius = Ieee.of_int binary64 (pos 50)

-- NORMALIZED_RADIUS as an f32
abbrev pub normalized_radius32 : Float
normalized_radius32 = Ieee.of_int binary32 (pos 50)

-- MAX_SLIDER_RADIUS: 50 × 2.4 in f32, which is one unit above 120
unfoldable pub max_slider_radius : Float
max_slider_radius = normalized_radius32 ⊗₃ f32 0x4019999A

-- ASSUMED_SLIDER_RADIUS: 50 × 1.8 in f32, which is 90
unfoldable pub assumed_slider_radius : Float
assumed_slider_radius = normalized_radius32 ⊗₃ f32 0x3FE66666

-- MIN_DELTA_TIME: 25
abbrev pub min_delta_time : Float
min_delta_time = f64 0x4039000000000000

-- TAIL_LENIENCY: -36
abbrev pub tail_leniency : Float
tail_leniency = f64 0xC042000000000000

-- the small circle bonus begins at a radius of 30, and 40 less would double it
abbrev pub small_radius : Float
small_radius = f64 0x403E000000000000

abbrev pub small_radius_scale : Float
small_radius_scale = f64 0x4044000000000000

-- 2.5 repeats double what a slider's travel distance is raised from
abbrev pub repeat_scale : Float
repeat_scale = f64 0x4004000000000000

-- HD_FADE_OUT_DURATION_MULTIPLIER: 0.3
abbrev pub fade_out_multiplier : Float
fade_out_multiplier = f64 0x3FD3333333333333
