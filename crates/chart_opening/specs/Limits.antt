-- Document 01, "The chart": the ranges of settings, and the longest chart. Definitions only.
use Rattle.std.specs.Prelude.{ℕ, Float}
use Rattle.num_floats.specs.Numbers.{f32, f64}

-- "Bytes 32 to 79, factor and flags among them, are the settings"
abbrev pub settings_start : ℕ
settings_start = 32

abbrev pub settings_size : ℕ
settings_size = 48

-- "Clock rate 0.25 to 4"
abbrev pub slowest_clock : Float
slowest_clock = f64 0x3FD0000000000000

abbrev pub fastest_clock : Float
fastest_clock = f64 0x4010000000000000

-- "radius 1 to 200"; the 1 here and below is one64
abbrev pub largest_radius : Float
largest_radius = f64 0x4069000000000000

-- "factor 0.25 to 50", as f32
abbrev pub smallest_factor : Float
smallest_factor = f32 0x3E800000

abbrev pub largest_factor : Float
largest_factor = f32 0x42480000

-- "hit window 1 to 400"
abbrev pub widest_window : Float
widest_window = f64 0x4079000000000000

-- "preempt and fade-in 1 to 10,000"
abbrev pub longest_fade : Float
longest_fade = f64 0x40C3880000000000

-- "start/clock rate at place N-1 minus that at place 1 is at most 3,000,000"
abbrev pub longest_chart : Float
longest_chart = f64 0x4146E36000000000
