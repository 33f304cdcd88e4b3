-- The chart with one object replaced: that object is the lent one (`place_put`, `here`), every other object (`place_kept`, `elsewhere`), the header with its settings
-- (`header_kept`, `layout`, `settings`, `header`) and what follows the objects (`rest_kept`, `entries`) are as they were. Assumes nothing.
use Rattle.std.specs.Prelude.{ℕ, ◌+◌, ◌*◌, ◌≤◌, ◌<◌, ◌≡◌, List, length, take, drop}
use Rattle.std.proofs.Math.Decide.{dec_lt}
use Rattle.std.proofs.Common.{le_refl, arith}
use Rattle.num_floats.specs.Same.{Same}
use Rattle.num_tables.specs.Parts.{part, put}
use Rattle.num_tables.proofs.Rows.{length_put, take_put, drop_put, part_put_same, part_put_before, part_put_after}
use Rattle.chart_fields.specs.Limits.{header_size, nested_size, point_size}
use Rattle.chart_fields.specs.Objects.{Holds, object_at, fields_at, fields_of}
use Rattle.chart_fields.specs.Place.{place_within}
use Rattle.chart_fields.specs.Same.{fields_same}
use Rattle.chart_fields.specs.declared.Layout.{Layout}
use Rattle.chart_entries.specs.Entries.{nested_of, point_of}
use Rattle.chart_entries.specs.Same.{nested_same, point_same, SameEntries}
use Rattle.chart_opening.specs.Header.{layout_of, header_ok, settings_of}
use Rattle.chart_opening.specs.Same.{layout_of_same, settings_of_same, header_same}
use Rattle.chart_replacing.specs.Put.{part_same, rest_same, same-inside}
use Rattle.chart_replacing.specs.Replace.{object_bytes, put_object}

module _ (s : List ℕ) (place : ℕ) (object : List ℕ)
    (H : Holds s (layout_of s)) (hp : place < (layout_of s).n) (ho : length object ≡ (layout_of s).object_size) where
  abbrev lay : Layout
  lay = layout_of s

  abbrev new : List ℕ
  new = put_object place object s

  -- the place ends before the nested entries, and within the chart
  ends : object_at lay place + length object ≤ lay.nested_at
  ends = rw ho (omega (arith, place_within lay.object_size place lay.n hp, H.objects))

  pub fits : object_at lay place + length object ≤ length s
  fits = omega (arith, ends, H.nested_in_lem, H.points_in)

  -- ---- bytes
  pub keeps-length : length new ≡ length s
  unfolding put_object
  keeps-length = length_put (object_at lay place) object s fits

  pub header_kept : take header_size new ≡ take header_size s
  unfolding put_object
  header_kept = take_put header_size (object_at lay place) object s (omega arith) (omega (arith, fits))

  pub rest_kept : drop lay.nested_at new ≡ drop lay.nested_at s
  unfolding put_object
  rest_kept = drop_put lay.nested_at (object_at lay place) object s ends fits

  same_header : Same new 0 s 0 header_size
  unfolding part
  same_header = part_same 0 0 header_size new s header_kept

  -- ---- the header
  pub layout : layout_of new ≡ layout_of s
  layout = layout_of_same same_header

  pub settings : settings_of new ≡ settings_of s
  settings = settings_of_same same_header

  pub header : header_ok new ≡ header_ok s
  header = header_same same_header keeps-length

  -- ---- the objects
  elsewhere_part : (j : ℕ) → (j ≡ place → ⊥) → part (object_at lay j) lay.object_size new ≡ part (object_at lay j) lay.object_size s
  unfolding put_object
  elsewhere_part j d = go (dec_lt j place)
    where
      go : Dec (j < place) → part (object_at lay j) lay.object_size (put (object_at lay place) object s) ≡ part (object_at lay j) lay.object_size s
      go (yes l) =
          part_put_before (object_at lay j) lay.object_size (object_at lay place) object s
          (omega (arith, place_within lay.object_size j place l)) (omega (arith, fits))
      go (no l) =
          part_put_after (object_at lay j) lay.object_size (object_at lay place) object s
          (rw ho (omega (arith, place_within lay.object_size place j (omega (arith, d))))) fits

  pub place_put : object_bytes new place ≡ object
  unfolding object_bytes put_object
  place_put = rw layout (part_put_same (object_at lay place) object s lay.object_size ho (rw ho at fits))

  pub place_kept : (j : ℕ) → (j ≡ place → ⊥) → object_bytes new j ≡ object_bytes s j
  unfolding object_bytes
  place_kept j d = rw layout (elsewhere_part j d)

  -- ---- what they hold
  pub here : fields_of new lay place ≡ fields_at object 0 lay.object_size
  unfolding fields_of put_object
  here = fields_same (rw ho at (same-inside s (object_at lay place) object fits)) H.size_least

  pub elsewhere : (j : ℕ) → (j ≡ place → ⊥) → fields_of new lay j ≡ fields_of s lay j
  unfolding fields_of
  elsewhere j d = fields_same (part_same (object_at lay j) (object_at lay j) lay.object_size new s (elsewhere_part j d)) H.size_least

  pub entries : SameEntries new s lay
  unfolding nested_of point_of
  entries =
      record {
        nested = λ e. nested_same (rest_same lay.nested_at (lay.nested_at + nested_size * e) nested_size new s rest_kept (omega arith)) (le_refl nested_size);
        points = λ e. point_same (rest_same lay.nested_at (lay.points_at + point_size * e) point_size new s rest_kept (omega (arith, H.nested_in_lem))) (le_refl point_size);
      }
