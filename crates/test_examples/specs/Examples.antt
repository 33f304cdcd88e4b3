-- Document 01, "Proved examples": P1 to P12 as one table, what is computed beside what the document says, and one theorem over it.
-- All are whole numbers: floats go by their bits, and L may be below zero. Assumes nothing.
use Rattle.std.specs.Prelude.{◌≡◌, refl, List, [], ◌∷◌, map, ℕ, ◌*◌, ◌^◌, ℤ, pos, neg_ℤ, Float}
use Rattle.std.specs.Float.{binary32, binary64}
use Rattle.std.specs.Float.Ieee.{of_bits, to_bits, neg, units, odd, size, lt, eq, ne, add, sub, mul, div, of_int}
use Rattle.num_floats.specs.Numbers.{f32, f64, ◌⊖◌, zero64, half64, one64, two64, pi64}
use Rattle.num_floats.specs.Compare.{max_of}
use Rattle.num_roots.specs.Root.{root_of, root_kept, root_drop, isqrt, isqrt_in, digit}
use Rattle.num_elementary.specs.Log.{log_of, log_bits}
use Rattle.num_elementary.specs.Two.{two_of}
use Rattle.num_elementary.specs.Power.{power_of, power_other}
use Rattle.num_angle.specs.Angle.{scaled, to31, digits, doubled, leftward, lower, negated, turned, next, more_bits, bits_of}
use Rattle.num_angle.specs.Float.{sign_bit, units_of, direction_of, straight, of_bits28, angle_bits, angle_of}
use Rattle.chart_entries.specs.declared.Nested.{Nested}
use Rattle.osu_object.specs.Osu.{last_below}
use Rattle.osu_difficulty_object.specs.Constants.{max_slider_radius, assumed_slider_radius}
use Rattle.osu_difficulty_object.specs.Cursor.{last_tick, tracking_end, moved_by, tracking_of, order_of}
use Rattle.osu_difficulty_object.specs.declared.cursor.Tracking.{Tracking}

-- a row of the document's number
pub record Example : Type 0 where
  pub number : ℕ
  pub computed : ℤ
  pub written : ℤ

-- 2^39 and 8
abbrev two39 : Float
two39 = f64 0x4260000000000000

abbrev eight : Float
eight = f64 0x4020000000000000

abbrev bits : Float → ℤ
bits x = pos (to_bits binary64 x)

abbrev bits32 : Float → ℤ
bits32 x = pos (to_bits binary32 x)

-- P12: the bits of 1000, 1064, 1065 and 1100
abbrev from1000 : ℕ
from1000 = 0x408F400000000000

abbrev at1064 : ℕ
at1064 = 0x4090A00000000000

abbrev at1065 : ℕ
at1065 = 0x4090A40000000000

abbrev to1100 : ℕ
to1100 = 0x4091300000000000

-- the slider's only tick, at a time, and its tail
abbrev entries : ℕ → List Nested
entries time =
    record { start = f64 time; x = f32 0; y = f32 0; kind = 0; zero = 0 }
    ∷ record { start = f64 to1100; x = f32 0; y = f32 0; kind = 2; zero = 0 }
    ∷ []

abbrev tracked_to : Float
tracked_to = tracking_end (f64 from1000) (f64 to1100 ⊖ f64 from1000)

abbrev tracked : ℕ → Tracking
tracked time = tracking_of (entries time) tracked_to

pub table : List Example
table =
    record { number = 1; computed = bits (root_of binary64 two64); written = pos 0x3FF6A09E667F3BCD }  -- the root of 2
    ∷ record { number = 2; computed = bits (two_of two39); written = pos 0x3FF6A09E667F3BCD }  -- Two of 2^39
    ∷ record { number = 3; computed = log_of eight; written = pos (3 * 2 ^ 40) }  -- L of 8
    ∷ record { number = 4; computed = log_of half64; written = neg_ℤ (pos (2 ^ 40)) }  -- L of 0.5
    ∷ record { number = 5; computed = bits (power_of zero64 zero64); written = bits one64 }  -- Power(0, 0)
    ∷ record { number = 6; computed = pos (angle_bits zero64 one64); written = pos (2 ^ 27) }  -- the angle bits of (0, 1)
    ∷ record { number = 7; computed = pos (angle_bits one64 one64); written = pos (2 ^ 26) }  -- of (1, 1)
    ∷ record { number = 8; computed = pos (angle_bits (neg one64) one64); written = pos (3 * 2 ^ 26) }  -- of (-1, 1)
    ∷ record { number = 9; computed = bits (angle_of (neg zero64) zero64); written = bits pi64 }  -- the angle of (-0, 0) is PI
    ∷ record { number = 10; computed = bits32 max_slider_radius; written = pos 0x42F00001 }  -- MAX_SLIDER_RADIUS
    ∷ record { number = 11; computed = bits32 assumed_slider_radius; written = pos 0x42B40000 }  -- ASSUMED_SLIDER_RADIUS
    ∷ record { number = 12; computed = bits tracked_to; written = pos at1064 }  -- the tracking end
    ∷ record { number = 12; computed = pos (tracked at1064).moved; written = pos 2 }  -- a tick at 1064 isn't moved
    ∷ record { number = 12; computed = bits (tracked at1064).end_time; written = pos at1064 }
    ∷ record { number = 12; computed = pos (tracked at1065).moved; written = pos 0 }  -- at 1065 it is
    ∷ record { number = 12; computed = bits (tracked at1065).end_time; written = pos at1065 }
    ∷ record { number = 12; computed = pos (order_of (tracked at1065).moved 2 0); written = pos 1 }  -- and the tail comes first
    ∷ record { number = 12; computed = pos (order_of (tracked at1065).moved 2 1); written = pos 0 }
    ∷ []

pub examples : map (λ (e : Example). e.computed) table ≡ map (λ (e : Example). e.written) table
unfolding table of_bits to_bits neg root_of root_kept root_drop isqrt isqrt_in digit two_of log_bits log_of power_of power_other angle_of sign_bit units_of direction_of straight of_bits28 scaled to31 digits doubled leftward lower negated turned next more_bits bits_of units odd size tracking_of moved_by tracking_end last_tick last_below order_of max_of lt eq ne add sub mul div of_int max_slider_radius assumed_slider_radius
examples = refl
