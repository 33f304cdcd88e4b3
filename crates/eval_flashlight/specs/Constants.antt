-- The constants of evaluators/flashlight.rs and skills/flashlight.rs. Definitions only.
use Rattle.std.specs.Prelude.{ℕ, Float}
use Rattle.num_floats.specs.Numbers.{f64, half64}

-- 52: the scaling factor is this over the radius
abbrev pub scaled_radius : Float
scaled_radius = f64 0x404A000000000000

-- MAX_OPACITY_BONUS: 0.4
abbrev pub max_opacity_bonus : Float
max_opacity_bonus = f64 0x3FD999999999999A

-- HIDDEN_BONUS: 0.2
abbrev pub hidden_bonus : Float
hidden_bonus = f64 0x3FC999999999999A

-- MIN_VELOCITY: 0.5
abbrev pub min_velocity : Float
min_velocity = half64

-- SLIDER_MULTIPLIER: 1.3
abbrev pub slider_multiplier : Float
slider_multiplier = f64 0x3FF4CCCCCCCCCCCD

-- MIN_ANGLE_MULTIPLIER: 0.2
abbrev pub min_angle_multiplier : Float
min_angle_multiplier = f64 0x3FC999999999999A

-- 75: a nearer object is seen within the flashlight
abbrev pub seen_dist : Float
seen_dist = f64 0x4052C00000000000

-- 25: an object with a shorter jump counts as stacked
abbrev pub stack_dist : Float
stack_dist = f64 0x4039000000000000

-- 0.02: nearer angles are one
abbrev pub same_angle : Float
same_angle = f64 0x3F947AE147AE147B

-- 0.1: what a repeated angle counts less for each place back
abbrev pub repeat_loss : Float
repeat_loss = f64 0x3FB999999999999A

-- how many records back the walk goes
abbrev pub history : ℕ
history = 10
