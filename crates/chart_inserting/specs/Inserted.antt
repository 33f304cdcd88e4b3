-- The buffer with an object put in: the object is there (`place_put`, `here`), the chart has it more and else the same (`one_more`), its header is right
-- again (`header`), and bytes past its length are as they were (`rest`). Assumes nothing.
use Rattle.std.specs.Prelude.{ℕ, ◌+◌, ◌-◌, ◌≤◌, ◌<◌, ◌≡◌, true, false, List, ltb, length, drop}
use Rattle.std.proofs.Math.Path.{sym}
use Rattle.std.proofs.Common.{ap, ◌∙◌, take_all, mul-suc, mul-le-mul_left, add-one, arith, ltb-false, leb-false}
use mathlib.Mathlib.Data.Bool.Basic.{or-eq-false-eq-eq-false-and-eq-false as neither}
use Rattle.num_tables.specs.Parts.{part, put, moved}
use Rattle.num_tables.proofs.Rows.{length_put, drop_put, part_put_same, part_put_before, part_put_after}
use Rattle.num_tables.proofs.Moves.{length_moved, drop_moved, part_moved_in, part_moved_before}
use Rattle.chart_fields.specs.Limits.{header_size, most_objects}
use Rattle.chart_fields.specs.Objects.{object_at, fields_at, fields_of}
use Rattle.chart_fields.specs.Same.{fields_same}
use Rattle.chart_fields.specs.declared.Layout.{Layout}
use Rattle.chart_opening.proofs.Header.{parts, offsets}
use Rattle.chart_opening.specs.Header.{layout_of, header_ok, chart_length, layout_end, settings_of}
use Rattle.chart_replacing.specs.Put.{part_same}
use Rattle.chart_replacing.specs.Replace.{object_bytes}
use Rattle.chart_inserting.specs.Insert.{length_for, layout_for, insert_object, no_room}
use Rattle.chart_inserting.specs.OneMore.{OneMore, count_bytes, setting_bytes}
use Rattle.chart_inserting.specs.Recounted as C
use Rattle.chart_inserting.specs.Widened as W

-- what room there is
pub room_free : (s : List ℕ) → no_room s ≡ false → chart_length s + (layout_of s).object_size ≤ length s
unfolding no_room
room_free s e = ltb-false _ _ ((neither (ltb (length s) (chart_length s + (layout_of s).object_size)) _).0 e).0

pub room_more : (s : List ℕ) → no_room s ≡ false → (layout_of s).n < most_objects
unfolding no_room
room_more s e = leb-false _ _ ((neither (ltb (length s) (chart_length s + (layout_of s).object_size)) _).0 e).1

module _ (s : List ℕ) (place : ℕ) (object : List ℕ)
    (h : header_ok s ≡ true) (hp : place ≤ (layout_of s).n) (room : no_room s ≡ false) (ho : length object ≡ (layout_of s).object_size) where
  abbrev lay : Layout
  lay = layout_of s

  abbrev size : ℕ
  size = lay.object_size

  abbrev at : ℕ
  at = object_at lay place

  abbrev shift : List ℕ
  shift = moved at (at + size) (chart_length s - at) s

  abbrev wider : List ℕ
  wider = put at object shift

  abbrev new : List ℕ
  new = insert_object place object s

  -- the offsets lie within the chart, and the chart with room for one more within the buffer
  ends : chart_length s ≡ layout_end lay
  ends = (offsets s lay (parts s h).offsets).ends

  pub place_within_chart : at ≤ chart_length s
  place_within_chart = omega (arith, ends, mul-le-mul_left size hp, W.nested_at_lem s, W.points_at_lem s)

  pub free : chart_length s + size ≤ length s
  free = room_free s room

  from_fits : at + (chart_length s - at) ≤ length s
  from_fits = omega (arith, free, place_within_chart)

  pub to_fits : at + size + (chart_length s - at) ≤ length s
  to_fits = omega (arith, free, place_within_chart)

  shift_long : length shift ≡ length s
  shift_long = length_moved at (at + size) (chart_length s - at) s from_fits to_fits

  object_fits : at + length object ≤ length shift
  object_fits = rw (shift_long, ho) (omega (arith, to_fits))

  wider_long : length wider ≡ length s
  wider_long = length_put at object shift object_fits ∙ shift_long

  wider_before : (i m : ℕ) → i + m ≤ at → part i m wider ≡ part i m s
  wider_before i m l =
      part_put_before i m at object shift l (omega (arith, object_fits))
      ∙ part_moved_before at (at + size) (chart_length s - at) s from_fits to_fits i m (omega arith)

  wider_behind : (i m : ℕ) → at ≤ i → i + m ≤ chart_length s → part (i + size) m wider ≡ part i m s
  wider_behind i m l e =
      let j : ℕ = i - at in
      let there : i + size ≡ at + size + j = omega arith in
      let here : at + j ≡ i = omega arith in
      part_put_after (i + size) m at object shift (omega (arith, ho)) object_fits
      ∙ (ap (λ (x : ℕ). part x m shift) there
      ∙ (part_moved_in at (at + size) (chart_length s - at) s from_fits to_fits j m (omega arith)
      ∙ ap (λ (x : ℕ). part x m s) here))

  wider_rest : (i : ℕ) → chart_length s + size ≤ i → drop i wider ≡ drop i s
  wider_rest i l =
      drop_put i at object shift (omega (arith, ho, place_within_chart)) object_fits
      ∙ drop_moved at (at + size) (chart_length s - at) s from_fits to_fits i (omega (arith, place_within_chart))

  wider_counts : count_bytes wider ≡ count_bytes s
  unfolding count_bytes
  wider_counts = wider_before 4 12 (omega arith)

  wider_settings : setting_bytes wider ≡ setting_bytes s
  unfolding setting_bytes
  wider_settings = wider_before 28 52 (omega arith)

  -- ---- the header
  more : lay.n + 1 ≤ most_objects
  more = omega (arith, room_more s room)

  one_longer : length_for lay (lay.n + 1) ≡ chart_length s + size
  one_longer = rw add-one (omega (arith, ends, mul-suc size lay.n, W.nested_at_lem s, W.points_at_lem s))

  pub fits : length_for lay (lay.n + 1) ≤ length s
  fits = omega (arith, one_longer, free)

  wider_header : header_size ≤ length wider
  wider_header = omega (arith, wider_long, (parts s h).long)

  pub keeps-length : length new ≡ length s
  unfolding insert_object
  keeps-length = C.keeps-length lay (lay.n + 1) wider wider_header ∙ wider_long

  pub layout : layout_of new ≡ layout_for lay (lay.n + 1)
  unfolding insert_object
  layout = C.layout s wider (lay.n + 1) h wider_long wider_counts wider_settings more fits

  pub settings : settings_of new ≡ settings_of s
  unfolding insert_object
  settings = C.settings s wider (lay.n + 1) h wider_long wider_counts wider_settings more fits

  pub header : header_ok new ≡ true
  unfolding insert_object
  header = C.header s wider (lay.n + 1) h wider_long wider_counts wider_settings more fits

  pub chart_length_lem : chart_length new ≡ chart_length s + size
  unfolding insert_object
  chart_length_lem = C.chart_length_lem s wider (lay.n + 1) h wider_long wider_counts wider_settings more fits ∙ one_longer

  kept : drop (chart_length s + size) new ≡ drop (chart_length s + size) wider
  unfolding insert_object
  kept = C.rest_kept lay (lay.n + 1) wider wider_header (chart_length s + size) (omega (arith, ends, W.nested_at_lem s, W.points_at_lem s))

  pub rest : drop (chart_length new) new ≡ drop (chart_length new) s
  rest = rw chart_length_lem (kept ∙ wider_rest (chart_length s + size) (omega arith))

  -- ---- the bytes
  new_part : (i m : ℕ) → 28 ≤ i → part i m new ≡ part i m wider
  unfolding insert_object
  new_part i m l = C.part_kept lay (lay.n + 1) wider wider_header i m l

  new_counts : count_bytes new ≡ count_bytes s
  unfolding count_bytes insert_object
  new_counts = C.counts_kept lay (lay.n + 1) wider wider_header ∙ wider_before 4 12 (omega arith)

  new_settings : setting_bytes new ≡ setting_bytes s
  unfolding setting_bytes
  new_settings = new_part 28 52 (omega arith) ∙ wider_before 28 52 (omega arith)

  pub one_more : OneMore place s new
  one_more =
      W.one_more place s new
      (record {
        at = hp;
        layout = layout ∙ ap (layout_for lay) (add-one lay.n);
        settings = settings;
        count_bytes_lem = new_counts;
        setting_bytes_lem = new_settings;
        before = λ i m l e. new_part i m (omega arith) ∙ wider_before i m e;
        behind = λ i m l e. new_part (i + size) m (omega arith) ∙ wider_behind i m l (rw ends e);
      })

  -- ---- the object
  object_part : part at size new ≡ object
  object_part = new_part at size (omega arith) ∙ part_put_same at object shift size ho (rw ho at object_fits)

  pub place_put : object_bytes new place ≡ object
  unfolding object_bytes
  place_put = rw layout object_part

  object_whole : object ≡ part 0 size object
  unfolding part
  object_whole = sym (take_all size object (omega (arith, ho)))

  pub here : fields_of new (layout_of new) place ≡ fields_at object 0 size
  unfolding fields_of
  here = rw layout (fields_same (part_same at 0 size new object (object_part ∙ object_whole)) (W.size_least s))
