-- Document 02, order 1: an object put in before place k, or taken out there. The chart is the first bytes of a buffer. Definitions only.
use Rattle.std.specs.Prelude.{ℕ, ◌+◌, ◌-◌, ◌*◌, ◌/◌, ◌%◌, Bool, not, ◌||◌, List, [], ◌∷◌, ◌++◌, leb, ltb, eqb, length}
use Rattle.num_tables.specs.Parts.{put, moved}
use Rattle.chart_fields.specs.Limits.{header_size, nested_size, point_size, most_objects}
use Rattle.chart_fields.specs.Objects.{object_at}
use Rattle.chart_fields.specs.declared.Layout.{Layout}
use Rattle.chart_opening.specs.Header.{layout_of, chart_length}
use Rattle.chart_opening.specs.Conditions.{refuse_if, first_of, body_of, chart_conditions, too_few, open_conditions}
use Rattle.chart_opening.specs.declared.Refusal.TheVariants.{Object, Place, Room}
use Rattle.chart_opening.specs.Verdict.{Verdict}

-- ---- The bytes

-- a u32, little-endian
unfoldable pub word_bytes : ℕ → List ℕ
word_bytes x = x % 0x100 ∷ x / 0x100 % 0x100 ∷ x / 0x10000 % 0x100 ∷ x / 0x1000000 % 0x100 ∷ []

abbrev pub put_word : ℕ → ℕ → List ℕ → List ℕ
put_word at x s = put at (word_bytes x) s

-- the offsets of the later tables, the whole length, and the layout, of a chart that has n objects and else the counts of a layout
abbrev pub nested_for : Layout → ℕ → ℕ
nested_for lay n = header_size + lay.object_size * n

abbrev pub points_for : Layout → ℕ → ℕ
points_for lay n = nested_for lay n + nested_size * lay.nested

abbrev pub length_for : Layout → ℕ → ℕ
length_for lay n = points_for lay n + point_size * lay.points

abbrev pub layout_for : Layout → ℕ → Layout
layout_for lay n = record {
  n = n;
  nested = lay.nested;
  points = lay.points;
  object_size = lay.object_size;
  nested_at = nested_for lay n;
  points_at = points_for lay n;
}

-- "count, offsets and length follow"
unfoldable pub recounted : Layout → ℕ → List ℕ → List ℕ
recounted lay n s = put_word 24 (length_for lay n) (put_word 20 (points_for lay n) (put_word 16 (nested_for lay n) (put_word 0 n s)))

-- "inserting at place k moves objects k and later, and both later tables, up": the buffer with an object's bytes put in at a place
unfoldable pub insert_object : ℕ → List ℕ → List ℕ → List ℕ
insert_object place object s =
    let lay = layout_of s in
    let at = object_at lay place in
    recounted lay (lay.n + 1) (put at object (moved at (at + lay.object_size) (chart_length s - at) s))

-- "removing moves them down": the buffer with the object at a place taken out. "Bytes past the length that a call leaves [..] keep what they held before it"
unfoldable pub remove_object : ℕ → List ℕ → List ℕ
remove_object place s =
    let lay = layout_of s in
    let at = object_at lay place in
    let next = at + lay.object_size in
    recounted lay (lay.n - 1) (moved next at (chart_length s - next) s)

-- ---- The conditions

-- "9 [..] when an insertion finds fewer than 56 free bytes or N is 16,384"; order 4: "insertions need [..] 64 bytes" in charts of such objects
unfoldable pub no_room : List ℕ → Bool
no_room s = ltb (length s) (chart_length s + (layout_of s).object_size) || leb most_objects (layout_of s).n

-- "Inserting may go at any k up to N"; then 9, an object of another length, and 3 to 6 for the chart as it would become
unfoldable pub insert_place_conditions : List ℕ → ℕ → List ℕ → List Verdict
insert_place_conditions s place object =
    refuse_if (not (leb place (layout_of s).n)) Place
    ∷ refuse_if (no_room s) Room
    ∷ refuse_if (not (eqb (length object) (layout_of s).object_size)) (Object place)
    ∷ body_of (insert_object place object s)

-- "It checks as replacing does, tables for an insertion needing N+1 entries"; `entries` is the number of entries of the shortest lent table
unfoldable pub insert_conditions : List ℕ → ℕ → List ℕ → ℕ → List Verdict
insert_conditions s place object entries = (chart_conditions s ++ (too_few entries ((layout_of s).n + 1) ∷ [])) ++ insert_place_conditions s place object

abbrev pub insert_verdict : List ℕ → ℕ → List ℕ → ℕ → Verdict
insert_verdict s place object entries = first_of (insert_conditions s place object entries)

-- a removal: 1 to 7, then 8 if the place isn't below N, then 3 to 6 for the chart as it would become
unfoldable pub remove_place_conditions : List ℕ → ℕ → List Verdict
remove_place_conditions s place = refuse_if (not (ltb place (layout_of s).n)) Place ∷ body_of (remove_object place s)

unfoldable pub remove_conditions : List ℕ → ℕ → ℕ → List Verdict
remove_conditions s place entries = open_conditions s entries ++ remove_place_conditions s place

abbrev pub remove_verdict : List ℕ → ℕ → ℕ → Verdict
remove_verdict s place entries = first_of (remove_conditions s place entries)
