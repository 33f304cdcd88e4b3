-- Document 01, "The chart": where objects lie and what they hold; conditions 3 and 5 of "What each call answers". Definitions only.
use Rattle.std.specs.Prelude.{ℕ, ◌+◌, ◌*◌, ◌-◌, ◌≤◌, Bool, cond, not, ◌&&◌, ◌||◌, List, leb, ltb, eqb, length, Float}
use Rattle.std.specs.Float.Ieee as Ieee
use Rattle.num_floats.specs.Fields.{u32_at, f64_at, f32_at}
use Rattle.num_floats.specs.Numbers.{◌⊖◌, zero64}
use Rattle.chart_fields.specs.Limits.{header_size, object_size, stated_size, nested_size, point_size, most_objects, most_entries, most_per_slider, latest_time, farthest_coordinate, farthest_stack, shortest_slider, longest_length, within, either_side}
use Rattle.chart_fields.specs.declared.Fields.{Fields}
use Rattle.chart_fields.specs.declared.Layout.{Layout}

-- "Objects start at 80; nested and points follow": the chart's bytes hold the tables of the layout, in this order, and the counts are within
-- their limits. Objects are at least as wide as their fields; the bound on that keeps offsets small.
pub record Holds (s : List ℕ) (lay : Layout) : Type 0 where
  pub few : lay.n ≤ most_objects
  pub few_nested : lay.nested ≤ most_entries
  pub few_points : lay.points ≤ most_entries
  pub size_least : object_size ≤ lay.object_size
  pub size_most : lay.object_size ≤ stated_size
  pub objects : header_size + lay.object_size * lay.n ≤ lay.nested_at
  pub nested_in_lem : lay.nested_at + nested_size * lay.nested ≤ lay.points_at
  pub points_in : lay.points_at + point_size * lay.points ≤ length s

-- document 02, order 4: "an f64 length last" in objects of 64 bytes; the old ones state none, which is a length of 0
unfoldable pub stated_length : List ℕ → ℕ → ℕ → Float
stated_length s at size = cond (eqb size stated_size) (f64_at s (at + object_size)) zero64

-- "f64 start, end; f32 x, y, stack offset x, y; u32 kind, spans, first nested, nested count, first point, point count", of an object of a size
unfoldable pub fields_at : List ℕ → ℕ → ℕ → Fields
fields_at s at size = record {
  start = f64_at s at;
  end = f64_at s (at + 8);
  x = f32_at s (at + 16);
  y = f32_at s (at + 20);
  stack_x = f32_at s (at + 24);
  stack_y = f32_at s (at + 28);
  kind = u32_at s (at + 32);
  spans = u32_at s (at + 36);
  first_nested = u32_at s (at + 40);
  nested_count = u32_at s (at + 44);
  first_point = u32_at s (at + 48);
  point_count = u32_at s (at + 52);
  length = stated_length s at size;
}

-- the offset of a place, and the object there
abbrev pub object_at : Layout → ℕ → ℕ
object_at lay i = header_size + lay.object_size * i

unfoldable pub fields_of : List ℕ → Layout → ℕ → Fields
fields_of s lay i = fields_at s (object_at lay i) lay.object_size

-- "0 circle, 1 slider, 2 spinner"
abbrev pub circle : ℕ
circle = 0

abbrev pub slider : ℕ
slider = 1

abbrev pub spinner : ℕ
spinner = 2

-- "Times 0 to 10,000,000 ms"
abbrev pub time_ok : Float → Bool
time_ok t = within t zero64 latest_time

-- "Coordinates within 131,072 either side of 0"
abbrev pub coordinate_ok : Float → Bool
coordinate_ok x = either_side x farthest_coordinate

-- "stack offsets within 1,024"
abbrev pub stack_ok : Float → Bool
stack_ok x = either_side x farthest_stack

-- "1 to 1,024": nested entries, points and spans of a slider; "a count outside 1 to 1,024 is 3"
abbrev pub count_ok : ℕ → Bool
count_ok n = leb 1 n && leb n most_per_slider

-- "For other kinds the last five fields are 0"; order 4, of the stated length: "which is 0 for a circle or spinner"
abbrev pub plain_ok : Fields → Bool
plain_ok f =
    eqb f.spans 0 && eqb f.first_nested 0 && eqb f.nested_count 0 && eqb f.first_point 0 && eqb f.point_count 0
    && Ieee.eq f.length zero64

-- "a slider's end minus start at least 0.001", the difference rounded once; its three counts; order 4: "A stated length outside its range is 3"
abbrev pub slider_ok : Fields → Bool
slider_ok f =
    Ieee.le shortest_slider (f.end ⊖ f.start) && count_ok f.spans && count_ok f.nested_count && count_ok f.point_count
    && within f.length zero64 longest_length

-- "a circle's end equals its start; a spinner's end isn't below it"; there is no fourth kind
abbrev pub kind_ok : Fields → Bool
kind_ok f =
    eqb f.kind circle && Ieee.eq f.end f.start && plain_ok f
    || eqb f.kind slider && slider_ok f
    || eqb f.kind spinner && Ieee.le f.start f.end && plain_ok f

-- "3 an object's own fields wrong": this is their being right
unfoldable pub fields_ok : Fields → Bool
fields_ok f =
    time_ok f.start && time_ok f.end && coordinate_ok f.x && coordinate_ok f.y && stack_ok f.stack_x && stack_ok f.stack_y && kind_ok f

-- condition 3 at a place
unfoldable pub bad_fields : List ℕ → Layout → ℕ → Bool
bad_fields s lay i = not (fields_ok (fields_of s lay i))

-- "5 a start before its predecessor's", at the place of the later object
unfoldable pub falls : List ℕ → Layout → ℕ → Bool
falls s lay i = ltb 0 i && Ieee.lt (fields_of s lay i).start (fields_of s lay (i - 1)).start
