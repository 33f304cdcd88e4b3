-- An object of document 01's chart, apart from where its entries stand: src/osu/object.rs.
use Rattle.std.specs.Prelude.{ℕ, zero, suc, ◌+◌, ◌-◌, ◌≤◌, ◌<◌, ◌≡◌, Bool, true, false, cond, List, [], ◌∷◌, eqb, get_or, length, pos}
use Rattle.std.specs.Float.Ieee as Ieee
use Rattle.std.specs.Float.{nan, binary64}
use Rattle.chart_fields.specs.Objects.{Holds, fields_of}
use Rattle.chart_fields.specs.declared.Fields.{Fields}
use Rattle.chart_fields.specs.declared.Layout.{Layout}
use Rattle.chart_entries.specs.Entries.{nested_of, point_of}
use Rattle.chart_entries.specs.declared.Nested.{Nested}
use Rattle.chart_entries.specs.declared.Point.{Point}
use Rattle.osu_pos.specs.declared.Pos.{Pos}
use Rattle.osu_pos.specs.Pos.{◌+ₚ◌}
use Rattle.osu_object.specs.declared.OsuObject.{OsuObject}
use Rattle.osu_object.specs.declared.OsuObjectKind.{OsuObjectKind}
use Rattle.osu_object.specs.declared.OsuObjectKind.TheVariants.{Circle, Spinner, Slider}
use Rattle.osu_object.specs.declared.Runs.{Runs}

unfoldable pub kind_of : Fields → OsuObjectKind
kind_of f = cond (eqb f.kind 0) Circle (cond (eqb f.kind 1) (Slider f.end (Ieee.of_int binary64 (pos f.spans))) Spinner)

abbrev pub is_slider : OsuObjectKind → Bool
is_slider Circle = false
is_slider Spinner = false
is_slider (Slider end spans) = true

abbrev pub is_spinner : OsuObjectKind → Bool
is_spinner Circle = false
is_spinner Spinner = true
is_spinner (Slider end spans) = false

unfoldable pub osu_object : Fields → OsuObject
osu_object f = record {
  pos = record { x = f.x; y = f.y };
  start_time = f.start;
  stack_offset = record { x = f.stack_x; y = f.stack_y };
  kind = kind_of f;
  length = f.length;
}

unfoldable pub runs_of : Fields → Runs
runs_of f = record {
  nested_first = f.first_nested;
  nested_count = f.nested_count;
  point_first = f.first_point;
  point_count = f.point_count;
}

-- f at n numbers from i on
unfoldable pub list_from : {A : Type 0} → (ℕ → A) → ℕ → ℕ → List A
list_from f i zero = []
list_from f i (suc n) = f i ∷ list_from f (suc i) n

-- a slider's nested entries and points, in order
abbrev pub nested_list : List ℕ → Layout → Runs → List Nested
nested_list s lay r = list_from (nested_of s lay) r.nested_first r.nested_count

abbrev pub point_list : List ℕ → Layout → Runs → List Point
point_list s lay r = list_from (point_of s lay) r.point_first r.point_count

-- an object with its nested entries and points: every field but the firsts
pub record Object : Type 0 where
  pub base : OsuObject
  pub nested : List Nested
  pub points : List Point

unfoldable pub object_of : List ℕ → Layout → ℕ → Object
object_of s lay i = record {
  base = osu_object (fields_of s lay i);
  nested = nested_list s lay (runs_of (fields_of s lay i));
  points = point_list s lay (runs_of (fields_of s lay i));
}

-- the entries of a slider lie in the tables of a chart that holds them
pub record Slides (s : List ℕ) (lay : Layout) (r : Runs) : Type 0 where
  pub holds : Holds s lay
  pub nested_in_lem : r.nested_first + r.nested_count ≤ lay.nested
  pub nested_some : 0 < r.nested_count
  pub points_in : r.point_first + r.point_count ≤ lay.points
  pub points_some : 0 < r.point_count

-- a chart whose sliders have their entries in the tables
pub record Ready (s : List ℕ) (lay : Layout) : Type 0 where
  pub holds : Holds s lay
  pub slides : (i : ℕ) → i < lay.n → is_slider (kind_of (fields_of s lay i)) ≡ true → Slides s lay (runs_of (fields_of s lay i))

-- what is read past the end
abbrev pub no_nested : Nested
no_nested = record { start = nan; x = nan; y = nan; kind = 0; zero = 0 }

abbrev pub no_point : Point
no_point = record { x = nan; y = nan; length = nan }

abbrev pub nested_in : List Nested → ℕ → Nested
nested_in ns k = get_or ns k no_nested

abbrev pub point_in : List Point → ℕ → Point
point_in ps k = get_or ps k no_point

abbrev pub stacked_pos : OsuObject → Pos
stacked_pos o = o.pos +ₚ o.stack_offset

abbrev pub nested_pos : Nested → Pos
nested_pos e = record { x = e.x; y = e.y }

-- the tail is the last entry
unfoldable pub tail_of : List Nested → Pos
tail_of ns = nested_pos (nested_in ns (length ns - 1))

-- where an object ends: a slider at its tail
abbrev pub end_by : OsuObjectKind → Pos → Pos → Pos
end_by Circle p tail = p
end_by Spinner p tail = p
end_by (Slider end spans) p tail = tail

unfoldable pub end_pos : OsuObject → List Nested → Pos
end_pos o ns = end_by o.kind o.pos (tail_of ns)

unfoldable pub stacked_end_pos : OsuObject → List Nested → Pos
stacked_end_pos o ns = end_pos o ns +ₚ o.stack_offset

-- at how many of the first k places a test holds
unfoldable pub count_below : (ℕ → Bool) → ℕ → ℕ
count_below test zero = 0
count_below test (suc k) = cond (test k) 1 0 + count_below test k

-- the last place below k at which a test holds, counted from 1; 0 if there is none
unfoldable pub last_below : (ℕ → Bool) → ℕ → ℕ
last_below test zero = 0
last_below test (suc k) = let rest : ℕ = last_below test k in cond (test k) (suc k) rest

abbrev pub is_tick : List Nested → ℕ → Bool
is_tick ns k = eqb (nested_in ns k).kind 0

abbrev pub is_repeat : List Nested → ℕ → Bool
is_repeat ns k = eqb (nested_in ns k).kind 1

unfoldable pub repeat_count : List Nested → ℕ
repeat_count ns = count_below (is_repeat ns) (length ns)
