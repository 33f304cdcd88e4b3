-- The constants of osu/difficulty/mod.rs, and of skills/strain.rs and skills/flashlight.rs as far as performances have some. Definitions only.
use Rattle.std.specs.Prelude.{Float}
use Rattle.num_floats.specs.Numbers.{f64}

-- STAR_RATING_MULTIPLIER: 0.0265
abbrev pub star_rating_multiplier : Float
star_rating_multiplier = f64 0x3F9B22D0E5604189

-- a performance up to 0.00001 has no stars
abbrev pub least_performance : Float
least_performance = f64 0x3EE4F8B588E368F1

-- 100,000: a performance is a cube over this
abbrev pub performance_scale : Float
performance_scale = f64 0x40F86A0000000000

-- 5 and 4: the cube is of 5 times the rating less 4, the stars are the cube root and 4
abbrev pub performance_slope : Float
performance_slope = f64 0x4014000000000000

abbrev pub performance_offset : Float
performance_offset = f64 0x4010000000000000

-- 25: flashlight's performance is so many squares of its rating
abbrev pub flashlight_scale : Float
flashlight_scale = f64 0x4039000000000000

-- 1.1: performances are joined by sums of this power
abbrev pub joining_power : Float
joining_power = f64 0x3FF199999999999A
