-- Document 01, "The chart": the header and its settings; conditions 1, 2 and 6 of "What each call answers". Definitions only.
use Rattle.std.specs.Prelude.{ℕ, ◌+◌, ◌*◌, ◌-◌, ◌/◌, ◌%◌, Bool, cond, not, ◌&&◌, List, leb, ltb, eqb, length, Float}
use Rattle.std.specs.Float.Ieee as Ieee
use Rattle.num_floats.specs.Fields.{u32_at, f64_at, f32_at}
use Rattle.num_floats.specs.Numbers.{◌⊖◌, ◌⊘◌, one64}
use Rattle.chart_fields.specs.Limits.{header_size, object_size, stated_size, nested_size, point_size, most_objects, most_entries, within}
use Rattle.chart_fields.specs.Objects.{fields_of}
use Rattle.chart_fields.specs.declared.Layout.{Layout}
use Rattle.chart_opening.specs.Limits.{settings_start, slowest_clock, fastest_clock, largest_radius, smallest_factor, largest_factor, widest_window, longest_fade, longest_chart}
use Rattle.chart_opening.specs.declared.Settings.{Settings}

-- document 02, order 4: "The word at 28 is 1 for such charts", whose objects have 64 bytes, "and 0 for the old"
unfoldable pub size_for : ℕ → ℕ
size_for format = cond (eqb format 1) stated_size object_size

abbrev pub format_of : List ℕ → ℕ
format_of s = u32_at s 28

-- "u32 at 0 object count N, 4 nested count, 8 point count"; "Objects start at 80; nested and points follow without gaps"
unfoldable pub layout_of : List ℕ → Layout
layout_of s = record {
  n = u32_at s 0;
  nested = u32_at s 4;
  points = u32_at s 8;
  object_size = size_for (format_of s);
  nested_at = header_size + size_for (format_of s) * u32_at s 0;
  points_at = header_size + size_for (format_of s) * u32_at s 0 + nested_size * u32_at s 4;
}

-- "N at most 16,384; nested and points at most 65,536 each"
unfoldable pub counts_ok : Layout → Bool
counts_ok lay = leb lay.n most_objects && leb lay.nested most_entries && leb lay.points most_entries

-- "24 whole length": the chart is the first bytes of a buffer, as many as this field says (document 02, order 1)
abbrev pub chart_length : List ℕ → ℕ
chart_length s = u32_at s 24

-- where a layout's last point ends
abbrev pub layout_end : Layout → ℕ
layout_end lay = lay.points_at + point_size * lay.points

-- "12, 16, 20 offsets of the three tables, 24 whole length": they say what the counts do, and the chart ends with the last point;
-- order 1: "From now on the length field may be below the buffer's"
unfoldable pub offsets_ok : List ℕ → Layout → Bool
offsets_ok s lay =
    eqb (u32_at s 12) header_size && eqb (u32_at s 16) lay.nested_at && eqb (u32_at s 20) lay.points_at
    && eqb (chart_length s) (layout_end lay) && leb (chart_length s) (length s)

-- all of it but the flags: there are 80 bytes, counts and offsets are right, and the word at 28 is 0 or 1 (order 4)
unfoldable pub frame_ok : List ℕ → Bool
frame_ok s = leb header_size (length s) && (counts_ok (layout_of s) && leb (format_of s) 1) && offsets_ok s (layout_of s)

-- "u32 at 76 flags: bit 0 hidden, bit 1 autopilot, others zero"
unfoldable pub flags_ok : ℕ → Bool
flags_ok flags = ltb flags 4

-- "1 header, length, counts, offsets or reserved bits wrong": this is their being right
unfoldable pub header_ok : List ℕ → Bool
header_ok s = frame_ok s && flags_ok (u32_at s 76)

-- "clock rate, radius, hit window, preempt, fade-in", f64; f32 factor; flags "bit 0 hidden, bit 1 autopilot"
unfoldable pub settings_at : List ℕ → ℕ → Settings
settings_at s at = record {
  clock_rate = f64_at s at;
  radius = f64_at s (at + 8);
  hit_window = f64_at s (at + 16);
  preempt = f64_at s (at + 24);
  fade_in = f64_at s (at + 32);
  factor = f32_at s (at + 40);
  hidden = eqb (u32_at s (at + 44) % 2) 1;
  autopilot = eqb (u32_at s (at + 44) / 2 % 2) 1;
}

-- the settings of a chart's header
abbrev pub settings_of : List ℕ → Settings
settings_of s = settings_at s settings_start

-- "2 a setting outside its range": this is their being in range
unfoldable pub settings_ok : Settings → Bool
settings_ok t =
    within t.clock_rate slowest_clock fastest_clock
    && within t.radius one64 largest_radius
    && within t.hit_window one64 widest_window
    && within t.preempt one64 longest_fade
    && within t.fade_in one64 longest_fade
    && within t.factor smallest_factor largest_factor

-- "start/clock rate at place N-1 minus that at place 1 is at most 3,000,000", each operation rounded once: these two starts are too far apart
abbrev pub far_apart : Float → Float → Float → Bool
far_apart last first clock = not (Ieee.le (last ⊘ clock ⊖ first ⊘ clock) longest_chart)

-- "6 chart too long in time", "for N from 2"
unfoldable pub too_long : List ℕ → Layout → Float → Bool
too_long s lay clock = leb 2 lay.n && far_apart (fields_of s lay (lay.n - 1)).start (fields_of s lay 1).start clock
