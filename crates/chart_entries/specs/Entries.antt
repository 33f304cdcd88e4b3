-- Document 01, "The chart": nested entries and points; condition 4 of "What each call answers". Definitions only.
use Rattle.std.specs.Prelude.{ℕ, ◌+◌, ◌*◌, ◌-◌, Bool, not, cond, ◌&&◌, ◌||◌, List, leb, ltb, eqb}
use Rattle.std.specs.Float.Ieee as Ieee
use Rattle.num_floats.specs.Fields.{u32_at, f64_at, f32_at}
use Rattle.num_floats.specs.Numbers.{zero64}
use Rattle.chart_fields.specs.Limits.{nested_size, point_size, longest_length, within}
use Rattle.chart_fields.specs.Objects.{fields_of, slider, time_ok, coordinate_ok}
use Rattle.chart_fields.specs.Search.{first_below}
use Rattle.chart_fields.specs.declared.Fields.{Fields}
use Rattle.chart_fields.specs.declared.Layout.{Layout}
use Rattle.chart_entries.specs.declared.Nested.{Nested}
use Rattle.chart_entries.specs.declared.Point.{Point}

-- "f64 start, f32 x, y, u32 kind, u32 zero"
unfoldable pub nested_at : List ℕ → ℕ → Nested
nested_at s at = record { start = f64_at s at; x = f32_at s (at + 8); y = f32_at s (at + 12); kind = u32_at s (at + 16); zero = u32_at s (at + 20) }

-- "f32 x, y relative to the head, f64 length so far"
unfoldable pub point_at : List ℕ → ℕ → Point
point_at s at = record { x = f32_at s at; y = f32_at s (at + 4); length = f64_at s (at + 8) }

-- the nested entry and the point of a number; "entry numbers from 0"
unfoldable pub nested_of : List ℕ → Layout → ℕ → Nested
nested_of s lay e = nested_at s (lay.nested_at + nested_size * e)

unfoldable pub point_of : List ℕ → Layout → ℕ → Point
point_of s lay e = point_at s (lay.points_at + point_size * e)

-- "0 tick, 1 repeat, 2 tail"
abbrev pub tail : ℕ
tail = 2

-- "The tail is the last and the only one"; "a nested entry's last word that isn't zero is 4"
unfoldable pub nested_ok : Nested → Bool → Bool
nested_ok e last =
    time_ok e.start && coordinate_ok e.x && coordinate_ok e.y && (last && eqb e.kind tail || not last && ltb e.kind tail) && eqb e.zero 0

-- order 6: "by start time, never falling; at equal times a tick comes before a repeat": entry b may follow a, neither of them the tail
unfoldable pub in_order : Nested → Nested → Bool
in_order a b = Ieee.lt a.start b.start || Ieee.eq a.start b.start && leb a.kind b.kind

-- order 6, "those before the tail": entry k of a slider's count nested entries, which begin at first, is the first, the tail, or may follow the one before
unfoldable pub in_time : List ℕ → Layout → ℕ → ℕ → ℕ → Bool
in_time s lay first count k = eqb k 0 || eqb (k + 1) count || in_order (nested_of s lay (first + (k - 1))) (nested_of s lay (first + k))

-- entry k of a slider's count nested entries, which begin at first, is wrong
unfoldable pub nested_bad : List ℕ → Layout → ℕ → ℕ → ℕ → Bool
nested_bad s lay first count k = not (nested_ok (nested_of s lay (first + k)) (eqb (k + 1) count) && in_time s lay first count k)

-- "the first length is 0, lengths never fall": at point k of a slider's points, which begin at first
unfoldable pub length_ok : List ℕ → Layout → ℕ → ℕ → Bool
length_ok s lay first k =
    cond (eqb k 0) (Ieee.eq (point_of s lay (first + k)).length zero64)
    (Ieee.le (point_of s lay (first + (k - 1))).length (point_of s lay (first + k)).length)

-- a point's coordinates and length are in their ranges
unfoldable pub point_ok : Point → Bool
point_ok p = coordinate_ok p.x && coordinate_ok p.y && within p.length zero64 longest_length

-- point k of a slider's points, which begin at first, is wrong
unfoldable pub point_bad : List ℕ → Layout → ℕ → ℕ → Bool
point_bad s lay first k = not (point_ok (point_of s lay (first + k)) && length_ok s lay first k)

-- "4 a slider's nested or points outside their table or wrong": this is their being inside and right
unfoldable pub runs_ok : List ℕ → Layout → Fields → Bool
runs_ok s lay f =
    leb (f.first_nested + f.nested_count) lay.nested
    && leb (f.first_point + f.point_count) lay.points
    && eqb (first_below (nested_bad s lay f.first_nested f.nested_count) f.nested_count) f.nested_count
    && eqb (first_below (point_bad s lay f.first_point) f.point_count) f.point_count

-- condition 4 of an object with these fields, and at a place
abbrev pub wrong_entries : List ℕ → Layout → Fields → Bool
wrong_entries s lay f = eqb f.kind slider && not (runs_ok s lay f)

unfoldable pub bad_entries : List ℕ → Layout → ℕ → Bool
bad_entries s lay i = wrong_entries s lay (fields_of s lay i)
