-- The bits of the radii, which the compiler works out. Assumes nothing.
use mathlib.Core.Path.{◌≡◌, refl}
use lib.Ieee.{of_bits, of_int, mul}
use Rattle.num_floats.specs.Numbers.{f32}
use Rattle.osu_difficulty_object.specs.Constants.{max_slider_radius, assumed_slider_radius}

pub max_radius : f32 0x42F00001 ≡ max_slider_radius
unfolding max_slider_radius of_bits of_int mul
max_radius = refl

pub assumed_radius : f32 0x42B40000 ≡ assumed_slider_radius
unfolding assumed_slider_radius of_bits of_int mul
assumed_radius = refl
