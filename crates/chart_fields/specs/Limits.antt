-- Document 01, "The chart": the sizes of its parts, and the limits that objects and entries share. Definitions only.
use Rattle.std.specs.Prelude.{ℕ, Bool, ◌&&◌, Float}
use Rattle.std.specs.Float.Ieee as Ieee
use Rattle.num_floats.specs.Numbers.{f32, f64}

-- "Header, 80 bytes"
abbrev pub header_size : ℕ
header_size = 80

-- "Object, 56 bytes"
abbrev pub object_size : ℕ
object_size = 56

-- document 02, order 4: "Objects become 64 bytes with an f64 length last"
abbrev pub stated_size : ℕ
stated_size = 64

-- "Nested, 24 bytes"
abbrev pub nested_size : ℕ
nested_size = 24

-- "Point, 16 bytes"
abbrev pub point_size : ℕ
point_size = 16

-- "N at most 16,384"
abbrev pub most_objects : ℕ
most_objects = 16384

-- "nested and points at most 65,536 each"
abbrev pub most_entries : ℕ
most_entries = 65536

-- "per slider 1 to 1,024 of each; spans 1 to 1,024"
abbrev pub most_per_slider : ℕ
most_per_slider = 1024

-- "Times 0 to 10,000,000 ms"
abbrev pub latest_time : Float
latest_time = f64 0x416312D000000000

-- "Coordinates within 131,072 either side of 0"
abbrev pub farthest_coordinate : Float
farthest_coordinate = f32 0x48000000

-- "stack offsets within 1,024"
abbrev pub farthest_stack : Float
farthest_stack = f32 0x44800000

-- "a slider's end minus start at least 0.001"
abbrev pub shortest_slider : Float
shortest_slider = f64 0x3F50624DD2F1A9FC

-- "lengths to 1,000,000"; order 4, a stated length "from 0 to 1,000,000"
abbrev pub longest_length : Float
longest_length = f64 0x412E848000000000

-- from low to high, both included; a NaN or an infinity is in no range of finite ends
abbrev pub within : Float → Float → Float → Bool
within x low high = Ieee.le low x && Ieee.le x high

-- within an f32 limit either side of 0
abbrev pub either_side : Float → Float → Bool
either_side x limit = within x (Ieee.neg limit) limit
