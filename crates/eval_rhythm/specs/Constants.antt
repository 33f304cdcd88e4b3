-- The constants of evaluators/rhythm.rs. Definitions only.
use Rattle.std.specs.Prelude.{ℕ, ℤ, pos, Float}
use Rattle.num_floats.specs.Numbers.{f64, one64}

-- HISTORY_TIME_MAX: 5000 ms
abbrev pub history_time_max : Float
history_time_max = f64 0x40B3880000000000

-- HISTORY_OBJECTS_MAX
abbrev pub history_objects_max : ℕ
history_objects_max = 32

-- RHYTHM_OVERALL_MULTIPLIER
abbrev pub rhythm_overall_multiplier : Float
rhythm_overall_multiplier = one64

-- RHYTHM_RATIO_MULTIPLIER: 15
abbrev pub rhythm_ratio_multiplier : Float
rhythm_ratio_multiplier = f64 0x402E000000000000

-- MIN_DELTA_TIME and the largest i32
abbrev pub min_delta_time : ℤ
min_delta_time = pos 25

abbrev pub largest : ℤ
largest = pos 2147483647

-- 0.3: of the hit window, within which deltas count as equal; and of the ratio, out of a slider
abbrev pub three_tenths : Float
three_tenths = f64 0x3FD3333333333333

-- 0.125: of the ratio, into a slider or after speeding up twice
abbrev pub eighth : Float
eighth = f64 0x3FC0000000000000

-- 0.6: of the ratio, where an island begins into or out of a slider
abbrev pub six_tenths : Float
six_tenths = f64 0x3FE3333333333333

-- 0.75: of the doubletapness, which is taken off the ratio
abbrev pub three_quarters : Float
three_quarters = f64 0x3FE8000000000000

-- the least delta time, 1e-7
abbrev pub least_delta : Float
least_delta = f64 0x3E7AD7F29ABCAF48

-- 8: a ratio of two delta times above it lowers the ratio's bonus, and from twice of it on there is none
abbrev pub eight : Float
eight = f64 0x4020000000000000

-- the power for a repeated island: its midpoint 58.33, slope 0.24 and largest value 2.75
abbrev pub repeat_midpoint : Float
repeat_midpoint = f64 0x404D2A3D70A3D70A

abbrev pub repeat_slope : Float
repeat_slope = f64 0x3FCEB851EB851EB8

abbrev pub repeat_most : Float
repeat_most = f64 0x4006000000000000

-- 4, whose root is the least value twice
abbrev pub four : Float
four = f64 0x4010000000000000
