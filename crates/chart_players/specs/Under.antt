-- The second player's chart has the layout, the objects and the entries of the one that is lent, and the settings and flags of the bytes that come with it. The
-- chart under its own settings is itself. Assumes nothing.
use Prim.Native.Nat.{ℕ, ◌+◌, ◌-◌, ◌*◌, ◌≤◌, ◌<◌}
use Rattle.std.specs.Prelude.{◌≡◌, refl, Bool, true, false, cond, ◌&&◌, Float}
use Rattle.std.proofs.Math.Path.{sym, ap}
use Rattle.std.proofs.Common.{◌∙◌, drop-drop, le_refl, le-leb, eqb-true, eq-eqb}
use Rattle.std.proofs.Math.Bool.{not}
use mathlib.Core.List.{List, [], ◌∷◌, ◌++◌}
use Rattle.std.proofs.Math.Dec.{leb, ltb}
use Rattle.std.specs.Float.Ieee as Ieee
use Rattle.std.proofs.Math.ListN.{length, take, drop, replicate, take-append-drop}
use Rattle.std.proofs.lemmas.List.{length-replicate}
use native.Mathlib.Omega.{arith}
use Rattle.std.proofs.Math.Decide.{dec_lt}
use Rattle.std.proofs.lemmas.Bool.{lt-leb}
use Rattle.num_floats.specs.Fields.{u32_at}
use Rattle.num_floats.specs.Same.{Same, shift, u32_same}
use Rattle.num_tables.specs.Parts.{part, put}
use Rattle.num_tables.proofs.Rows.{length_put, take_put, drop_put}
use Rattle.num_tables.proofs.Moves.{length_part}
use Rattle.chart_fields.specs.Limits.{header_size, object_size, nested_size, point_size}
use Rattle.chart_fields.specs.Objects.{fields_of, fields_ok, bad_fields, falls, object_at}
use Rattle.chart_fields.specs.Same.{fields_same}
use Rattle.chart_fields.specs.declared.Fields.{Fields}
use Rattle.chart_fields.specs.declared.Layout.{Layout}
use Rattle.chart_entries.specs.Entries.{nested_of, point_of, bad_entries, wrong_entries}
use Rattle.chart_entries.specs.Same.{nested_same, point_same, SameEntries, wrong_same}
use Rattle.chart_entries.specs.declared.Nested.{Nested}
use Rattle.chart_entries.specs.declared.Point.{Point}
use Rattle.chart_opening.specs.Limits.{settings_start, settings_size}
use Rattle.chart_opening.specs.Header.{chart_length, format_of, layout_of, frame_ok, flags_ok, header_ok, settings_at, settings_of, far_apart, too_long}
use Rattle.chart_opening.specs.Same.{layout_front_same, frame_same, settings_same}
use Rattle.chart_opening.specs.Conditions.{refuse_if, refuse_at, body_conditions, body_of}
use Rattle.chart_opening.specs.declared.Refusal.TheVariants.{Object, Entries, Order, Length}
use Rattle.chart_opening.proofs.Header.{both, size_least}
use Rattle.chart_replacing.specs.Put.{part_same, rest_same, same-inside}
use Rattle.chart_players.specs.Second.{is_settings, settings_for, under}

pub for_length : (t : List ℕ) → length (settings_for t) ≡ settings_size
unfolding settings_for
for_length t = go (is_settings t) refl
  where
    go : (x : Bool) → is_settings t ≡ x → length (cond x t (replicate settings_size 0)) ≡ settings_size
    go true e = eqb-true (length t) settings_size e
    go false e = length-replicate {A = ℕ} settings_size 0

pub for_settings : (t : List ℕ) → length t ≡ settings_size → settings_for t ≡ t
unfolding settings_for
for_settings t e = rw (eq-eqb (length t) settings_size e)

module _ (t b : List ℕ) where
  pub under_long : header_size ≤ length b → under t b ≡ put settings_start (settings_for t) b
  unfolding under
  under_long h = rw (le-leb header_size (length b) h)

  pub under_short : length b < header_size → under t b ≡ b
  unfolding under
  under_short h = rw (lt-leb header_size (length b) h)

  settings_fit : header_size ≤ length b → settings_start + length (settings_for t) ≤ length b
  settings_fit h = rw (for_length t) h

  pub length_under : length (under t b) ≡ length b
  length_under = go (dec_lt (length b) header_size)
    where
      go : Dec (length b < header_size) → length (under t b) ≡ length b
      go (yes h) = ap length (under_short h)
      go (no h) = ap length (under_long (omega (arith, h))) ∙ length_put settings_start (settings_for t) b (settings_fit (omega (arith, h)))

  -- the bytes before the settings, and those behind them
  pub take_under : take settings_start (under t b) ≡ take settings_start b
  take_under = go (dec_lt (length b) header_size)
    where
      go : Dec (length b < header_size) → take settings_start (under t b) ≡ take settings_start b
      go (yes h) = ap (take settings_start) (under_short h)
      go (no h) =
          let l : header_size ≤ length b = omega (arith, h) in
          ap (take settings_start) (under_long l) ∙ take_put settings_start settings_start (settings_for t) b (le_refl settings_start) (omega (arith, l))

  pub drop_under : drop header_size (under t b) ≡ drop header_size b
  drop_under = go (dec_lt (length b) header_size)
    where
      go : Dec (length b < header_size) → drop header_size (under t b) ≡ drop header_size b
      go (yes h) = ap (drop header_size) (under_short h)
      go (no h) =
          let l : header_size ≤ length b = omega (arith, h) in
          ap (drop header_size) (under_long l) ∙ drop_put header_size settings_start (settings_for t) b (omega (arith, for_length t)) (settings_fit l)

  front : Same (under t b) 0 b 0 settings_start
  unfolding part
  front = part_same 0 0 settings_start (under t b) b take_under

  -- ---- the header
  pub layout_under : layout_of (under t b) ≡ layout_of b
  layout_under = layout_front_same front

  pub frame_under : frame_ok (under t b) ≡ frame_ok b
  frame_under = frame_same front length_under

  pub length_field : chart_length (under t b) ≡ chart_length b
  length_field = u32_same (shift front 24 4 (omega arith)) (omega arith)

  inside : header_size ≤ length b → Same (under t b) settings_start (settings_for t) 0 settings_size
  inside h = rw (under_long h) (rw (for_length t) at (same-inside b settings_start (settings_for t) (settings_fit h)))

  pub settings_under : header_size ≤ length b → settings_of (under t b) ≡ settings_at (settings_for t) 0
  settings_under h = settings_same (inside h) (le_refl settings_size)

  pub flags_under : header_size ≤ length b → u32_at (under t b) 76 ≡ u32_at (settings_for t) 44
  flags_under h = u32_same (shift (inside h) 44 4 (omega arith)) (omega arith)

  -- ---- the objects and their entries
  size_under : object_size ≤ (layout_of b).object_size
  unfolding layout_of
  size_under = size_least (format_of b)

  pub fields_under : fields_of (under t b) (layout_of b) ≡ fields_of b (layout_of b)
  unfolding fields_of
  fields_under = λ i j.
      fields_same (rest_same header_size (object_at (layout_of b) j) (layout_of b).object_size (under t b) b drop_under (omega arith)) size_under i

  nested_behind : header_size ≤ (layout_of b).nested_at
  unfolding layout_of
  nested_behind = omega arith

  points_behind : header_size ≤ (layout_of b).points_at
  unfolding layout_of
  points_behind = omega arith

  pub nested_under : nested_of (under t b) (layout_of b) ≡ nested_of b (layout_of b)
  unfolding nested_of
  nested_under = λ i e.
      nested_same (rest_same header_size ((layout_of b).nested_at + nested_size * e) nested_size (under t b) b drop_under (omega (arith, nested_behind))) (le_refl nested_size) i

  pub points_under : point_of (under t b) (layout_of b) ≡ point_of b (layout_of b)
  unfolding point_of
  points_under = λ i e.
      point_same (rest_same header_size ((layout_of b).points_at + point_size * e) point_size (under t b) b drop_under (omega (arith, points_behind))) (le_refl point_size) i

  entries_under : SameEntries (under t b) b (layout_of b)
  entries_under = record { nested = λ e. ap (λ (f : ℕ → Nested). f e) nested_under; points = λ e. ap (λ (f : ℕ → Point). f e) points_under }

  -- ---- the conditions
  bad_under : bad_fields (under t b) (layout_of b) ≡ bad_fields b (layout_of b)
  unfolding bad_fields
  bad_under = λ i j. not (fields_ok (fields_under i j))

  wrong_under : bad_entries (under t b) (layout_of b) ≡ bad_entries b (layout_of b)
  unfolding bad_entries
  wrong_under = λ i j.
      (ap (λ (f : ℕ → Fields). wrong_entries (under t b) (layout_of b) (f j)) fields_under ∙ wrong_same entries_under (fields_of b (layout_of b) j)) i

  falls_under : falls (under t b) (layout_of b) ≡ falls b (layout_of b)
  unfolding falls
  falls_under = λ i j. ltb 0 j && Ieee.lt (fields_under i j).start (fields_under i (j - 1)).start

  pub long_under : (clock : Float) → too_long (under t b) (layout_of b) clock ≡ too_long b (layout_of b) clock
  unfolding too_long
  long_under clock = λ i. leb 2 (layout_of b).n && far_apart (fields_under i ((layout_of b).n - 1)).start (fields_under i 1).start clock

  body_same : (clock : Float) → body_conditions (under t b) (layout_of b) clock ≡ body_conditions b (layout_of b) clock
  unfolding body_conditions
  body_same clock = λ i.
      refuse_at Object (bad_under i) (layout_of b).n ∷ refuse_at Entries (wrong_under i) (layout_of b).n ∷ refuse_at Order (falls_under i) (layout_of b).n
      ∷ refuse_if (long_under clock i) Length ∷ []

  pub body_under : body_of (under t b) ≡ body_conditions b (layout_of b) (settings_of (under t b)).clock_rate
  body_under = ap (λ (l : Layout). body_conditions (under t b) l (settings_of (under t b)).clock_rate) layout_under ∙ body_same (settings_of (under t b)).clock_rate

  -- condition 1 of the second player's chart
  pub header_under : header_size ≤ length b → header_ok (under t b) ≡ (frame_ok b && flags_ok (u32_at (settings_for t) 44))
  unfolding header_ok
  header_under h = λ i. frame_under i && flags_ok (flags_under h i)

  pub framed_under : header_ok (under t b) ≡ true → frame_ok b ≡ true
  unfolding header_ok
  framed_under h = sym frame_under ∙ (both _ _ h).0

  pub header_none : frame_ok b ≡ false → header_ok (under t b) ≡ false
  unfolding header_ok
  header_none e = simp (frame_under, e)

-- bytes of another length have no wrong flag
pub flags_none : (t : List ℕ) → is_settings t ≡ false → flags_ok (u32_at (settings_for t) 44) ≡ true
unfolding settings_for flags_ok u32_at
flags_none t e = ap (λ (x : Bool). flags_ok (u32_at (cond x t (replicate settings_size 0)) 44)) e

-- the chart under its own settings
module _ (b : List ℕ) (h : header_size ≤ length b) where
  pub own_length : length (part settings_start settings_size b) ≡ settings_size
  own_length = length_part settings_start settings_size b h

  put_own : put settings_start (part settings_start settings_size b) b ≡ b
  unfolding put part
  put_own =
      let x : List ℕ = drop settings_start b in
      let e : drop (settings_start + length (take settings_size x)) b ≡ drop settings_size x =
      ap (λ (n : ℕ). drop (settings_start + n) b) own_length ∙ sym (drop-drop settings_size settings_start b) in
      ap (λ (y : List ℕ). take settings_start b ++ (take settings_size x ++ y)) e
      ∙ (ap (λ (y : List ℕ). take settings_start b ++ y) (take-append-drop settings_size x) ∙ take-append-drop settings_start b)

  pub under_own : under (part settings_start settings_size b) b ≡ b
  under_own =
      under_long (part settings_start settings_size b) b h
      ∙ (ap (λ (x : List ℕ). put settings_start x b) (for_settings (part settings_start settings_size b) own_length) ∙ put_own)
