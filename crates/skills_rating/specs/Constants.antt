-- The constants of osu/difficulty/rating.rs. Definitions only.
use Rattle.std.specs.Prelude.{Float}
use Rattle.num_floats.specs.Numbers.{f64}

-- DIFFICULTY_MULTIPLIER: 0.0675
abbrev pub difficulty_multiplier : Float
difficulty_multiplier = f64 0x3FB147AE147AE148

-- the exponent of a cube root: the f64 nearest to one third
abbrev pub third : Float
third = f64 0x3FD5555555555555

-- ---- the mods' shares

-- a touch device takes the power 0.8
abbrev pub touch_exponent : Float
touch_exponent = f64 0x3FE999999999999A

-- 0.9 of aim under relax
abbrev pub relax_aim : Float
relax_aim = f64 0x3FECCCCCCCCCCCCD

-- 0.7 of flashlight under relax, else 0.4 under autopilot
abbrev pub relax_flashlight : Float
relax_flashlight = f64 0x3FE6666666666666

abbrev pub autopilot_flashlight : Float
autopilot_flashlight = f64 0x3FD999999999999A

-- 0.3 of an attraction counts for speed
abbrev pub speed_attraction : Float
speed_attraction = f64 0x3FD3333333333333

-- a start scale of 11 leaves the least share, 0.1
abbrev pub full_scale : Float
full_scale = f64 0x4026000000000000

abbrev pub least_share : Float
least_share = f64 0x3FB999999999999A

-- ---- the approach rate

-- rates above 10.33 count 0.3 each, rates below 8 count 0.05 each
abbrev pub high_rate : Float
high_rate = f64 0x4024A8F5C28F5C29

abbrev pub high_share : Float
high_share = f64 0x3FD3333333333333

abbrev pub low_rate : Float
low_rate = f64 0x4020000000000000

abbrev pub low_share : Float
low_share = f64 0x3FA999999999999A

-- by length: 0.95, and 0.4 for the share of 2,000 objects
abbrev pub length_base : Float
length_base = f64 0x3FEE666666666666

abbrev pub length_share : Float
length_share = f64 0x3FD999999999999A

abbrev pub long_length : Float
long_length = f64 0x409F400000000000

-- ---- the flashlight rating's length: 0.7, 0.1 for the share of 200 objects and 0.2 for that of 200 more

abbrev pub short_base : Float
short_base = f64 0x3FE6666666666666

abbrev pub short_share : Float
short_share = f64 0x3FB999999999999A

abbrev pub short_more : Float
short_more = f64 0x3FC999999999999A

abbrev pub short_length : Float
short_length = f64 0x4069000000000000

-- ---- the overall difficulty: 0.98 and a square over 2,500 for aim and flashlight, 0.95 and a square over 750 for speed

abbrev pub aim_accuracy : Float
aim_accuracy = f64 0x3FEF5C28F5C28F5C

abbrev pub aim_accuracy_scale : Float
aim_accuracy_scale = f64 0x40A3880000000000

abbrev pub speed_accuracy : Float
speed_accuracy = f64 0x3FEE666666666666

abbrev pub speed_accuracy_scale : Float
speed_accuracy_scale = f64 0x4087700000000000

-- ---- visibility

-- 0.04 for each rate from 12 down to 7
abbrev pub reading_share : Float
reading_share = f64 0x3FA47AE147AE147B

abbrev pub reading_rate : Float
reading_rate = f64 0x4028000000000000

abbrev pub slow_rate : Float
slow_rate = f64 0x401C000000000000

-- from 7 down to 0: 0.03 for each where objects stay visible in part, else 0.045
abbrev pub slow_visible : Float
slow_visible = f64 0x3F9EB851EB851EB8

abbrev pub slow_hidden : Float
slow_hidden = f64 0x3FA70A3D70A3D70A

-- below 0: 0.075 or 0.1 of what a power of 1.5 leaves of 1
abbrev pub still_visible : Float
still_visible = f64 0x3FB3333333333333

abbrev pub still_hidden : Float
still_hidden = f64 0x3FB999999999999A

abbrev pub still_base : Float
still_base = f64 0x3FF8000000000000

-- AR_FACTOR_END_POINT: 11.5
abbrev pub ar_factor_end_point : Float
ar_factor_end_point = f64 0x4027000000000000

-- the starting point goes from 9 (aim) or 10 (speed) to 10.33 as the mechanical rating goes from 5 to 10
abbrev pub aim_start : Float
aim_start = f64 0x4022000000000000

abbrev pub speed_start : Float
speed_start = f64 0x4024000000000000

abbrev pub easy_mechanical : Float
easy_mechanical = f64 0x4014000000000000

abbrev pub hard_mechanical : Float
hard_mechanical = f64 0x4024000000000000
