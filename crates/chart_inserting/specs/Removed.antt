-- The buffer with an object taken out: the chart before has that object more and else the same (`one_more`), the new header is right again (`header`), and
-- bytes past the new length are as they were (`rest`). Assumes nothing.
use Rattle.std.specs.Prelude.{ℕ, suc, ◌+◌, ◌*◌, ◌-◌, ◌≤◌, ◌<◌, ◌≡◌, true, List, length, drop}
use Rattle.std.proofs.Common.{sym, ap, ◌∙◌, mul-suc, arith}
use Rattle.num_tables.specs.Parts.{part, moved}
use Rattle.num_tables.proofs.Moves.{length_moved, drop_moved, part_moved_in, part_moved_before}
use Rattle.chart_fields.specs.Limits.{header_size, most_objects}
use Rattle.chart_fields.specs.Objects.{object_at}
use Rattle.chart_fields.specs.Place.{place_within}
use Rattle.chart_fields.specs.declared.Layout.{Layout}
use Rattle.chart_opening.proofs.Header.{parts, offsets, holds}
use Rattle.chart_opening.specs.Header.{layout_of, header_ok, chart_length, layout_end, settings_of}
use Rattle.chart_inserting.specs.Insert.{length_for, layout_for, remove_object}
use Rattle.chart_inserting.specs.OneMore.{OneMore, count_bytes, setting_bytes}
use Rattle.chart_inserting.specs.Recounted as C
use Rattle.chart_inserting.specs.Widened as W

module _ (s : List ℕ) (place : ℕ) (h : header_ok s ≡ true) (hp : place < (layout_of s).n) where
  abbrev lay : Layout
  lay = layout_of s

  abbrev size : ℕ
  size = lay.object_size

  abbrev at : ℕ
  at = object_at lay place

  abbrev next : ℕ
  next = at + size

  abbrev shift : List ℕ
  shift = moved next at (chart_length s - next) s

  abbrev new : List ℕ
  new = remove_object place s

  -- the place ends within the chart
  ends : chart_length s ≡ layout_end lay
  ends = (offsets s lay (parts s h).offsets).ends

  pub place_ends : next ≤ chart_length s
  place_ends = omega (arith, ends, place_within size place lay.n hp, W.nested_at_lem s, W.points_at_lem s)

  within_buffer : chart_length s ≤ length s
  within_buffer = (offsets s lay (parts s h).offsets).fits

  pub from_fits : next + (chart_length s - next) ≤ length s
  from_fits = omega (arith, place_ends, within_buffer)

  to_fits : at + (chart_length s - next) ≤ length s
  to_fits = omega (arith, place_ends, within_buffer)

  shift_long : length shift ≡ length s
  shift_long = length_moved next at (chart_length s - next) s from_fits to_fits

  shift_before : (i m : ℕ) → i + m ≤ at → part i m shift ≡ part i m s
  shift_before i m l = part_moved_before next at (chart_length s - next) s from_fits to_fits i m l

  shift_behind : (i m : ℕ) → at ≤ i → i + size + m ≤ chart_length s → part (i + size) m s ≡ part i m shift
  shift_behind i m l e =
      let j : ℕ = i - at in
      let there : i + size ≡ next + j = omega arith in
      let here : at + j ≡ i = omega arith in
      ap (λ (x : ℕ). part x m s) there
      ∙ (sym (part_moved_in next at (chart_length s - next) s from_fits to_fits j m (omega arith))
      ∙ ap (λ (x : ℕ). part x m shift) here)

  shift_counts : count_bytes shift ≡ count_bytes s
  unfolding count_bytes
  shift_counts = shift_before 4 12 (omega arith)

  shift_settings : setting_bytes shift ≡ setting_bytes s
  unfolding setting_bytes
  shift_settings = shift_before 28 52 (omega arith)

  -- ---- the header
  fewer : lay.n - 1 ≤ most_objects
  fewer = let H = holds s h in omega (arith, H.few)

  count : suc (lay.n - 1) ≡ lay.n
  count = omega arith

  one_shorter : length_for lay (lay.n - 1) + size ≡ chart_length s
  one_shorter =
      let e : size * lay.n ≡ size * (lay.n - 1) + size = ap (λ (x : ℕ). size * x) (sym count) ∙ mul-suc size (lay.n - 1) in
      omega (arith, e, ends, W.nested_at_lem s, W.points_at_lem s)

  pub fits : length_for lay (lay.n - 1) ≤ length s
  fits = omega (arith, one_shorter, within_buffer)

  shift_header : header_size ≤ length shift
  shift_header = omega (arith, shift_long, (parts s h).long)

  pub keeps-length : length new ≡ length s
  unfolding remove_object
  keeps-length = C.keeps-length lay (lay.n - 1) shift shift_header ∙ shift_long

  pub layout : layout_of new ≡ layout_for lay (lay.n - 1)
  unfolding remove_object
  layout = C.layout s shift (lay.n - 1) h shift_long shift_counts shift_settings fewer fits

  pub settings : settings_of new ≡ settings_of s
  unfolding remove_object
  settings = C.settings s shift (lay.n - 1) h shift_long shift_counts shift_settings fewer fits

  pub header : header_ok new ≡ true
  unfolding remove_object
  header = C.header s shift (lay.n - 1) h shift_long shift_counts shift_settings fewer fits

  length_new : chart_length new ≡ length_for lay (lay.n - 1)
  unfolding remove_object
  length_new = C.chart_length_lem s shift (lay.n - 1) h shift_long shift_counts shift_settings fewer fits

  pub chart_length_lem : chart_length new + size ≡ chart_length s
  chart_length_lem = rw length_new one_shorter

  kept : drop (length_for lay (lay.n - 1)) new ≡ drop (length_for lay (lay.n - 1)) shift
  unfolding remove_object
  kept = C.rest_kept lay (lay.n - 1) shift shift_header (length_for lay (lay.n - 1)) (omega arith)

  pub rest : drop (chart_length new) new ≡ drop (chart_length new) s
  rest = rw length_new (kept ∙ drop_moved next at (chart_length s - next) s from_fits to_fits (length_for lay (lay.n - 1)) (omega (arith, one_shorter, place_ends)))

  -- ---- the bytes
  new_part : (i m : ℕ) → 28 ≤ i → part i m new ≡ part i m shift
  unfolding remove_object
  new_part i m l = C.part_kept lay (lay.n - 1) shift shift_header i m l

  new_counts : count_bytes new ≡ count_bytes s
  unfolding count_bytes remove_object
  new_counts = C.counts_kept lay (lay.n - 1) shift shift_header ∙ shift_before 4 12 (omega arith)

  new_settings : setting_bytes new ≡ setting_bytes s
  unfolding setting_bytes
  new_settings = new_part 28 52 (omega arith) ∙ shift_before 28 52 (omega arith)

  old_layout : lay ≡ layout_for (layout_of new) (suc (layout_of new).n)
  old_layout = rw (layout, count) (sym (C.layout_own s))

  pub one_more : OneMore place new s
  one_more =
      W.one_more place new s
      (record {
        at = rw layout (omega arith);
        layout = old_layout;
        settings = sym settings;
        count_bytes_lem = sym new_counts;
        setting_bytes_lem = sym new_settings;
        before = rw layout (λ i m l e. sym (new_part i m (omega arith) ∙ shift_before i m e));
        behind = rw layout (λ i m l e. shift_behind i m l (omega (arith, one_shorter)) ∙ sym (new_part i m (omega arith)));
      })
