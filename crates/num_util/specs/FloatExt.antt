-- util/float_ext.rs. Definitions only.
use Rattle.std.specs.Prelude.{Bool, Float}
use Rattle.std.specs.Float.Ieee as Ieee
use Rattle.num_floats.specs.Numbers.{f64, ◌⊕◌, ◌⊖◌, ◌⊗◌, one64}
use Rattle.num_floats.specs.Compare.{abs_of}

-- f64::EPSILON = 2^-52
abbrev pub epsilon : Float
epsilon = f64 0x3CB0000000000000

unfoldable pub eq : Float → Float → Bool
eq a b = Ieee.le (abs_of (a ⊖ b)) epsilon

unfoldable pub not_eq : Float → Float → Bool
not_eq a b = Ieee.le epsilon (abs_of (a ⊖ b))

unfoldable pub lerp : Float → Float → Float → Float
lerp a b amount = a ⊗ (one64 ⊖ amount) ⊕ b ⊗ amount
