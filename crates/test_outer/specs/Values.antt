-- The five values of a place, as `values_of_array` puts them together. Definitions only.
use Rattle.std.specs.Prelude.{Float}
use Rattle.eval_values.specs.declared.Values.{Values}

abbrev pub gathered_of : Float → Float → Float → Float → Float → Values
gathered_of aim without speed rhythm flashlight = record { aim = aim; aim_no_sliders = without; speed = speed; rhythm = rhythm; flashlight = flashlight }
