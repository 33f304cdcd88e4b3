-- The constants of evaluators/speed.rs. Definitions only.
use Rattle.std.specs.Prelude.{Float}
use Rattle.num_floats.specs.Numbers.{f64}

-- SINGLE_SPACING_THRESHOLD: NORMALIZED_DIAMETER × 1.25, which is 125
abbrev pub single_spacing_threshold : Float
single_spacing_threshold = f64 0x405F400000000000

-- MIN_SPEED_BONUS: 200
abbrev pub min_speed_bonus : Float
min_speed_bonus = f64 0x4069000000000000

-- SPEED_BALANCING_FACTOR: 40
abbrev pub speed_balancing_factor : Float
speed_balancing_factor = f64 0x4044000000000000

-- DIST_MULTIPLIER: 0.8
abbrev pub dist_multiplier : Float
dist_multiplier = f64 0x3FE999999999999A

-- the hit window's share that does not cap the time, 0.93, and the least cap, 0.92
abbrev pub window_share : Float
window_share = f64 0x3FEDC28F5C28F5C3

abbrev pub least_cap : Float
least_cap = f64 0x3FED70A3D70A3D71

-- the speed bonus is 0.75 times a square
abbrev pub bonus_scale : Float
bonus_scale = f64 0x3FE8000000000000

-- the distance bonus grows with a power of 3.95
abbrev pub dist_exponent : Float
dist_exponent = f64 0x400F99999999999A

-- 1000 ms in a second
abbrev pub second : Float
second = f64 0x408F400000000000
