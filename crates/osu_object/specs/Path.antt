-- Document 01, "Positions, paths, numbers", and document 02, order 4: lookup on a path at a progress.
use Rattle.std.specs.Prelude.{ℕ, ◌-◌, Bool, cond, ◌||◌, List, eqb, length, Float}
use Rattle.std.specs.Float.Ieee as Ieee
use Rattle.std.specs.Float.{binary32}
use Rattle.num_floats.specs.Numbers.{◌⊖◌, ◌⊗◌, ◌⊘◌, f64, zero64}
use Rattle.num_whole.specs.Narrow.{narrow}
use Rattle.chart_fields.specs.Search.{first_below}
use Rattle.chart_entries.specs.declared.Point.{Point}
use Rattle.osu_pos.specs.declared.Pos.{Pos}
use Rattle.osu_pos.specs.Pos.{◌+ₚ◌, ◌-ₚ◌, ◌*ₚ◌}
use Rattle.osu_object.specs.Osu.{point_in}

abbrev pub point_pos : Point → Pos
point_pos p = record { x = p.x; y = p.y }

abbrev pub reaches : List Point → Float → ℕ → Bool
reaches ps d k = Ieee.le d (point_in ps k).length

-- "the first point with length ≥ d, the last if none"
unfoldable pub segment_of : List Point → Float → ℕ
segment_of ps d = first_below (reaches ps d) (length ps - 1)

-- "p0 + (p1-p0) × w, w = (d-l0)/(l1-l0) rounded to f32"
unfoldable pub between : Point → Point → Float → Pos
between a b d = point_pos a +ₚ (point_pos b -ₚ point_pos a) *ₚ narrow binary32 ((d ⊖ a.length) ⊘ (b.length ⊖ a.length))

-- "at point 0 itself"
unfoldable pub lookup_at : List Point → Float → ℕ → Pos
lookup_at ps d i = cond (eqb i 0) (point_pos (point_in ps i)) (between (point_in ps (i - 1)) (point_in ps i) d)

-- ---- Order 4

abbrev pub last_point : List Point → Point
last_point ps = point_in ps (length ps - 1)

-- 0.001
abbrev pub least_apart : Float
least_apart = f64 0x3F50624DD2F1A9FC

-- "there is one point only or the last two lengths are less than 0.001 apart", the difference rounded once
unfoldable pub ends_short : List Point → Bool
ends_short ps = eqb (length ps) 1 || Ieee.lt ((last_point ps).length ⊖ (point_in ps (length ps - 2)).length) least_apart

-- "beyond the drawn end it prolongs the last segment by the same formula, or stays on the last point"
unfoldable pub prolonged : List Point → Float → Pos
prolonged ps d = cond (ends_short ps) (point_pos (last_point ps)) (between (point_in ps (length ps - 2)) (last_point ps) d)

-- at the length d, which lies beyond the drawn end where not even the last point's length reaches it
unfoldable pub lookup : List Point → Float → Pos
lookup ps d = cond (reaches ps d (length ps - 1)) (lookup_at ps d (segment_of ps d)) (prolonged ps d)

-- "uses the stated length in place of the last one"; "0 for a slider keeps the drawn length"
unfoldable pub whole_length : Float → Float → Float
whole_length stated drawn = cond (Ieee.eq stated zero64) drawn stated

-- "d = s × last length", or × the stated one
unfoldable pub position_at : List Point → Float → Float → Pos
position_at ps stated s = lookup ps (s ⊗ whole_length stated (last_point ps).length)
