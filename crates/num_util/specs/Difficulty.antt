-- util/difficulty.rs, in its order of operations. Definitions only.
use Rattle.std.specs.Prelude.{cond, Float}
use Rattle.std.specs.Float.Ieee as Ieee
use Rattle.num_floats.specs.Numbers.{f64, ◌⊕◌, ◌⊖◌, ◌⊗◌, ◌⊘◌, zero64, one64, two64, three64}
use Rattle.num_floats.specs.Compare.{clamp_of}
use Rattle.num_elementary.specs.Power.{exp_of}

-- 60,000 ms in a minute, and the parts of a beat where no other number is given
abbrev pub minute : Float
minute = f64 0x40ED4C0000000000

abbrev pub default_delimiter : Float
default_delimiter = f64 0x4010000000000000

unfoldable pub bpm_to_milliseconds : Float → Float → Float
bpm_to_milliseconds bpm delimiter = minute ⊘ delimiter ⊘ bpm

unfoldable pub milliseconds_to_bpm : Float → Float → Float
milliseconds_to_bpm ms delimiter = minute ⊘ (ms ⊗ delimiter)

unfoldable pub logistic : Float → Float → Float → Float → Float
logistic x midpoint multiplier most = most ⊘ (one64 ⊕ exp_of (multiplier ⊗ (midpoint ⊖ x)))

unfoldable pub reverse_lerp : Float → Float → Float → Float
reverse_lerp x start end = clamp_of ((x ⊖ start) ⊘ (end ⊖ start)) zero64 one64

unfoldable pub smoothstep : Float → Float → Float → Float
smoothstep x start end =
    let y = reverse_lerp x start end in
    y ⊗ y ⊗ (three64 ⊖ two64 ⊗ y)

-- 6, 15 and 10
abbrev pub six : Float
six = f64 0x4018000000000000

abbrev pub fifteen : Float
fifteen = f64 0x402E000000000000

abbrev pub ten : Float
ten = f64 0x4024000000000000

unfoldable pub smootherstep : Float → Float → Float → Float
smootherstep x start end =
    let y = reverse_lerp x start end in
    y ⊗ y ⊗ y ⊗ (y ⊗ (six ⊗ y ⊖ fifteen) ⊕ ten)

unfoldable pub from_the_width : Float → Float → Float
from_the_width y width = cond (Ieee.lt zero64 y) (width ⊖ y) (width ⊕ y)

unfoldable pub smoothstep_bell_curve : Float → Float → Float → Float
smoothstep_bell_curve x mean width = smoothstep (from_the_width (x ⊖ mean) width) zero64 width
