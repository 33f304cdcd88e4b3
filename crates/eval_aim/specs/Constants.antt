-- The constants of evaluators/aim.rs. Definitions only.
use Rattle.std.specs.Prelude.{pos, Float}
use Rattle.std.specs.Float.Ieee as Ieee
use Rattle.std.specs.Float.{binary64}
use Rattle.num_floats.specs.Numbers.{f32, f64}

-- DIAMETER, twice and three times, as f64; RADIUS is the record's
abbrev pub diameter : Float
diameter = Ieee.of_int binary64 (pos 100)

abbrev pub two_diameters : Float
two_diameters = Ieee.of_int binary64 (pos 200)

abbrev pub three_diameters : Float
three_diameters = Ieee.of_int binary64 (pos 300)

-- WIDE_ANGLE_MULTIPLIER: 1.5
abbrev pub wide_angle_multiplier : Float
wide_angle_multiplier = f64 0x3FF8000000000000

-- ACUTE_ANGLE_MULTIPLIER: 2.55
abbrev pub acute_angle_multiplier : Float
acute_angle_multiplier = f64 0x4004666666666666

-- SLIDER_MULTIPLIER: 1.35
abbrev pub slider_multiplier : Float
slider_multiplier = f64 0x3FF599999999999A

-- VELOCITY_CHANGE_MULTIPLIER: 0.75
abbrev pub velocity_change_multiplier : Float
velocity_change_multiplier = f64 0x3FE8000000000000

-- WIGGLE_MULTIPLIER: 1.02
abbrev pub wiggle_multiplier : Float
wiggle_multiplier = f64 0x3FF051EB851EB852

-- 1.25: rhythms are the same below this ratio; and the diameters that count for an overlap
abbrev pub five_quarters : Float
five_quarters = f64 0x3FF4000000000000

-- 0.08 and 0.92: what a repeated acute angle keeps, and what it can lose
abbrev pub acute_kept : Float
acute_kept = f64 0x3FB47AE147AE147B

abbrev pub acute_lost : Float
acute_lost = f64 0x3FED70A3D70A3D71

-- 300 and 400: the beats per minute over which the acute bonus sets in
abbrev pub acute_bpm : Float
acute_bpm = f64 0x4072C00000000000

abbrev pub full_acute_bpm : Float
full_acute_bpm = f64 0x4079000000000000

-- 1.8: the exponent of the wiggle bonus's distances
abbrev pub wiggle_power : Float
wiggle_power = f64 0x3FFCCCCCCCCCCCCD

-- 40 and 140 degrees, between which an angle turns from acute to wide
abbrev pub acute_degrees : Float
acute_degrees = f64 0x4044000000000000

abbrev pub wide_degrees : Float
wide_degrees = f64 0x4061800000000000

-- 110 and 60 degrees, from which and at which the wiggle bonus counts
abbrev pub wiggle_degrees : Float
wiggle_degrees = f64 0x405B800000000000

abbrev pub full_wiggle_degrees : Float
full_wiggle_degrees = f64 0x404E000000000000

-- 0.35: what a wide angle loses where its ends are one
abbrev pub close_loss : Float
close_loss = f64 0x3FD6666666666666

-- f32's 0 and 1
abbrev pub zero32 : Float
zero32 = f32 0

abbrev pub one32 : Float
one32 = f32 0x3F800000
