-- What the second player's conditions come to: where the first player's chart meets none of 1 to 6, only the flags, the settings, the length in time and the tables
-- are left; and where the first player's edit is accepted, of the chart as it would become only its length in time. Assumes nothing.
use Prim.Native.Nat.{ℕ, ◌+◌, ◌≤◌}
use Rattle.std.specs.Prelude.{◌≡◌, refl, Bool, true, false, not, ◌||◌, eqb, Float, length, Ok, Err}
use Rattle.std.proofs.Math.Path.{sym, ap}
use Rattle.std.proofs.Common.{◌∙◌, le-leb, lt-ltb, eq-eqb, eqb-true}
use mathlib.Core.List.{List, [], ◌∷◌, ◌++◌}
use Rattle.std.proofs.Math.Dec.{leb, ltb}
use Rattle.chart_fields.specs.Limits.{header_size, most_objects}
use Rattle.chart_fields.specs.Objects.{fields_at, bad_fields, falls}
use Rattle.chart_fields.specs.declared.Layout.{Layout}
use Rattle.chart_entries.specs.Entries.{bad_entries}
use Rattle.chart_opening.specs.Limits.{settings_size}
use Rattle.chart_opening.specs.Header.{layout_of, header_ok, settings_at, settings_of, settings_ok, too_long}
use Rattle.chart_opening.specs.Conditions.{refuse_if, refuse_at, first_of, body_conditions, body_of, chart_conditions, Opens, too_few, under_conditions, open_conditions, open_verdict}
use Rattle.chart_opening.specs.Accepted.{refuses, head_accepts, tail_accepts, header_ok_lem, body_ok}
use Rattle.chart_opening.specs.declared.Settings.{Settings}
use Rattle.chart_opening.specs.declared.Refusal.{Refusal}
use Rattle.chart_opening.specs.declared.Refusal.TheVariants.{Header, Setting, Object, Entries, Order, Length, Place, Room}
use Rattle.chart_opening.specs.Verdict.{Verdict}
use Rattle.chart_opening.proofs.Header.{parts, holds}
use Rattle.chart_opening.proofs.Body.{last}
use Rattle.chart_replacing.specs.Replace.{put_object, place_conditions, replace_conditions, replace_verdict}
use Rattle.chart_replacing.specs.Accepted.{Taken}
use Rattle.chart_replacing.proofs.Local.{same_rest}
use Rattle.chart_replacing.proofs.Local as Replacing
use Rattle.chart_replacing.specs.Local.{new_too_long}
use Rattle.chart_replacing.specs.Replaced as Replaced
use Rattle.chart_inserting.specs.Insert.{insert_object, remove_object, no_room, insert_place_conditions, insert_conditions, insert_verdict, remove_place_conditions, remove_conditions, remove_verdict}
use Rattle.chart_inserting.specs.Accepted.{Inserted, Removed}
use Rattle.chart_inserting.specs.Local.{long_with, long_without}
use Rattle.chart_inserting.specs.Inserted as I
use Rattle.chart_inserting.specs.Removed as R
use Rattle.chart_inserting.proofs.Local as Inserting
use Rattle.chart_inserting.proofs.Without as Removing
use Rattle.chart_players.specs.Second.{is_settings, under, size_conditions, second_verdict, both_verdict}
use Rattle.chart_players.specs.Under.{for_settings, length_under, layout_under, length_field, settings_under, body_under}
use Rattle.chart_players.specs.Commutes.{put_object_under, insert_object_under, remove_object_under}
use Rattle.chart_players.specs.Verdicts.{tried}

-- lists of conditions, one behind the other
pub first_append : (us vs : List Verdict) → first_of (us ++ vs) ≡ first_of (first_of us ∷ vs)
unfolding first_of
first_append [] vs = refl
first_append ((Ok tt) ∷ us) vs = first_append us vs
first_append (Err r ∷ us) vs = refl

pub refused_first : (r : Refusal) (vs : List Verdict) → first_of (Err r ∷ vs) ≡ Err r
unfolding first_of
refused_first r vs = refl

pub accepted_first : (vs : List Verdict) → first_of ((Ok tt) ∷ vs) ≡ first_of vs
unfolding first_of
accepted_first vs = refl

-- conditions 3 to 6 at another clock rate
pub body_other : (s : List ℕ) (lay : Layout) (clock other : Float) → first_of (body_conditions s lay clock) ≡ Ok tt
    → first_of (body_conditions s lay other) ≡ refuse_if (too_long s lay other) Length
unfolding body_conditions
body_other s lay clock other e =
    let e4 = tail_accepts (refuse_at Object (bad_fields s lay) lay.n) _ e in
    let e5 = tail_accepts (refuse_at Entries (bad_entries s lay) lay.n) _ e4 in
    ap (λ (v : Verdict). first_of (v ∷ refuse_at Entries (bad_entries s lay) lay.n ∷ refuse_at Order (falls s lay) lay.n ∷ refuse_if (too_long s lay other) Length ∷ []))
    (head_accepts _ _ e)
    ∙ (accepted_first _ ∙ (ap (λ (v : Verdict). first_of (v ∷ refuse_at Order (falls s lay) lay.n ∷ refuse_if (too_long s lay other) Length ∷ [])) (head_accepts _ _ e4)
    ∙ (accepted_first _ ∙ (ap (λ (v : Verdict). first_of (v ∷ refuse_if (too_long s lay other) Length ∷ [])) (head_accepts _ _ e5) ∙ (accepted_first _ ∙ last _)))))

-- a condition that passes
passes : (x : Bool) (r : Refusal) (vs : List Verdict) → x ≡ true → first_of (refuse_if (not x) r ∷ vs) ≡ first_of vs
passes x r vs e = ap (λ (y : Bool). first_of (refuse_if (not y) r ∷ vs)) e ∙ accepted_first vs

-- ---- The flags and the length of the settings

module _ (t b : List ℕ) (v : Verdict) where
  pub second_header : header_ok (under t b) ≡ false → second_verdict t b v ≡ Err Header
  unfolding second_verdict size_conditions first_of
  second_header h = simp h

  pub second_size : header_ok (under t b) ≡ true → is_settings t ≡ false → second_verdict t b v ≡ Err Setting
  unfolding second_verdict size_conditions first_of
  second_size h i = simp (h, i)

  pub second_passed : header_ok (under t b) ≡ true → is_settings t ≡ true → second_verdict t b v ≡ v
  unfolding second_verdict size_conditions
  second_passed h i = simp (h, i) (accepted_first _ ∙ (accepted_first _ ∙ last v))

-- of a call whose conditions begin with v
pub second_then : (t b : List ℕ) (v : Verdict) (vs : List Verdict) → second_verdict t b (first_of (v ∷ vs)) ≡ first_of (second_verdict t b v ∷ vs)
second_then t b v vs = go (header_ok (under t b)) (is_settings t) refl refl
  where
    go : (x y : Bool) → header_ok (under t b) ≡ x → is_settings t ≡ y → second_verdict t b (first_of (v ∷ vs)) ≡ first_of (second_verdict t b v ∷ vs)
    go false y h i = second_header t b (first_of (v ∷ vs)) h ∙ sym (ap (λ (w : Verdict). first_of (w ∷ vs)) (second_header t b v h) ∙ refused_first Header vs)
    go true false h i = second_size t b (first_of (v ∷ vs)) h i ∙ sym (ap (λ (w : Verdict). first_of (w ∷ vs)) (second_size t b v h i) ∙ refused_first Setting vs)
    go true true h i = second_passed t b (first_of (v ∷ vs)) h i ∙ sym (ap (λ (w : Verdict). first_of (w ∷ vs)) (second_passed t b v h i))

pub record Passed (t b : List ℕ) (v : Verdict) : Type 0 where
  pub header : header_ok (under t b) ≡ true
  pub size : length t ≡ settings_size
  pub then : v ≡ Ok tt

pub second_accepted : (t b : List ℕ) (v : Verdict) → second_verdict t b v ≡ Ok tt → Passed t b v
second_accepted t b v e = go (header_ok (under t b)) (is_settings t) refl refl
  where
    go : (x y : Bool) → header_ok (under t b) ≡ x → is_settings t ≡ y → Passed t b v
    go false y h i = absurd (refuses (sym (second_header t b v h) ∙ e))
    go true false h i = absurd (refuses (sym (second_size t b v h i) ∙ e))
    go true true h i = record { header = h; size = eqb-true (length t) settings_size i; then = sym (second_passed t b v h i) ∙ e }

-- ---- Two players

module _ (v w : Verdict) where
  pub both_first : (r : Refusal) → v ≡ Err r → both_verdict v w ≡ Err r
  unfolding both_verdict
  both_first r e = ap (λ (x : Verdict). first_of (x ∷ w ∷ [])) e ∙ refused_first r (w ∷ [])

  pub both_second : v ≡ Ok tt → both_verdict v w ≡ w
  unfolding both_verdict
  both_second e = ap (λ (x : Verdict). first_of (x ∷ w ∷ [])) e ∙ (accepted_first (w ∷ []) ∙ last w)

  pub both_accepted : both_verdict v w ≡ Ok tt → (v ≡ Ok tt) × (w ≡ Ok tt)
  unfolding both_verdict
  both_accepted e = let f : v ≡ (Ok tt) = head_accepts v (w ∷ []) e in (f, sym (both_second f) ∙ e)

-- ---- A chart whose header is right for the second player

module _ (t b : List ℕ) (h : header_ok (under t b) ≡ true) (i : length t ≡ settings_size) where
  pub long_enough : header_size ≤ length b
  long_enough = rw (length_under t b) at (parts (under t b) h).long

  abbrev set : Settings
  set = settings_at t 0

  pub settings_are : settings_of (under t b) ≡ settings_at t 0
  settings_are = settings_under t b long_enough ∙ ap (λ (x : List ℕ). settings_at x 0) (for_settings t i)

  body_are : body_of (under t b) ≡ body_conditions b (layout_of b) set.clock_rate
  body_are = body_under t b ∙ ap (λ (x : Settings). body_conditions b (layout_of b) x.clock_rate) settings_are

  -- conditions 1 to 6, and w behind them
  pub chart_under : (w : Verdict) → first_of (chart_conditions (under t b) ++ (w ∷ []))
      ≡ first_of (refuse_if (not (settings_ok set)) Setting ∷ body_conditions b (layout_of b) set.clock_rate ++ (w ∷ []))
  unfolding chart_conditions
  chart_under w =
      ap (λ (x : Bool). first_of (refuse_if (not x) Header ∷ refuse_if (not (settings_ok (settings_of (under t b)))) Setting ∷ body_of (under t b) ++ (w ∷ []))) h
      ∙ (accepted_first _ ∙ (λ j. first_of (refuse_if (not (settings_ok (settings_are j))) Setting ∷ body_are j ++ (w ∷ []))))

  pub open_under : (entries : ℕ) → open_verdict (under t b) entries ≡ first_of (under_conditions b set entries)
  unfolding open_conditions under_conditions
  open_under entries =
      chart_under (too_few entries (layout_of (under t b)).n)
      ∙ ap (λ (l : Layout). first_of (refuse_if (not (settings_ok set)) Setting ∷ body_conditions b (layout_of b) set.clock_rate ++ (too_few entries l.n ∷ []))) (layout_under t b)

  -- where the first player's chart meets none of 1 to 6
  pub chart_other : Opens b → (w : Verdict) → first_of (chart_conditions (under t b) ++ (w ∷ []))
      ≡ first_of (refuse_if (not (settings_ok set)) Setting ∷ refuse_if (too_long b (layout_of b) set.clock_rate) Length ∷ w ∷ [])
  chart_other o w =
      chart_under w
      ∙ same_rest (refuse_if (not (settings_ok set)) Setting) _ _
      (first_append (body_conditions b (layout_of b) set.clock_rate) (w ∷ [])
      ∙ ap (λ (v : Verdict). first_of (v ∷ w ∷ [])) (body_other b (layout_of b) (settings_of b).clock_rate set.clock_rate (body_ok b o)))

  -- the chart as it would become, b' by an edit of the first player's that is accepted
  pub body_after : (b' : List ℕ) → Opens b' → length b' ≡ length b
      → first_of (body_of (under t b')) ≡ refuse_if (too_long b' (layout_of b') set.clock_rate) Length
  body_after b' o l =
      ap first_of (body_under t b' ∙ ap (λ (x : Settings). body_conditions b' (layout_of b') x.clock_rate) (settings_under t b' (rw l long_enough) ∙ ap (λ (x : List ℕ). settings_at x 0) (for_settings t i)))
      ∙ body_other b' (layout_of b') (settings_of b').clock_rate set.clock_rate (body_ok b' o)

  -- ---- an edit that is accepted of the first player: of the chart as it would become only its length in time is left
  pub replace_after : (place : ℕ) (object : List ℕ) → Taken b place object
      → first_of (place_conditions (under t b) place object)
      ≡ refuse_if (new_too_long b (layout_of b) set.clock_rate place (fields_at object 0 (layout_of b).object_size)) Length
  unfolding place_conditions
  replace_after place object x =
      let H = holds b (header_ok_lem b x.opens) in
      let b' : List ℕ = put_object place object b in
      let f = fields_at object 0 (layout_of b).object_size in
      (λ j. first_of (refuse_if (not (ltb place (layout_under t b j).n)) Place
      ∷ refuse_if (not (eqb (length object) (layout_under t b j).object_size)) (Object place) ∷ body_of (put_object_under t b place object x j)))
      ∙ (passes (ltb place (layout_of b).n) Place _ (lt-ltb place (layout_of b).n x.below)
      ∙ (passes (eqb (length object) (layout_of b).object_size) (Object place) _ (eq-eqb (length object) (layout_of b).object_size x.long)
      ∙ (body_after b' x.becomes (Replaced.keeps-length b place object H x.below x.long)
      ∙ ap (λ (y : Bool). refuse_if y Length) (ap (λ (l : Layout). too_long b' l set.clock_rate) (Replaced.layout b place object H x.below x.long)
      ∙ Replacing.long_new b place object H x.below x.long set.clock_rate))))

  room_under : no_room (under t b) ≡ no_room b
  unfolding no_room
  room_under = λ j. ltb (length_under t b j) (length_field t b j + (layout_under t b j).object_size) || leb most_objects (layout_under t b j).n

  pub insert_after : (place : ℕ) (object : List ℕ) → Inserted b place object
      → first_of (insert_place_conditions (under t b) place object)
      ≡ refuse_if (long_with b (layout_of b) set.clock_rate place (fields_at object 0 (layout_of b).object_size)) Length
  unfolding insert_place_conditions
  insert_after place object x =
      let h = header_ok_lem b x.opens in
      let b' : List ℕ = insert_object place object b in
      (λ j. first_of (refuse_if (not (leb place (layout_under t b j).n)) Place ∷ refuse_if (room_under j) Room
      ∷ refuse_if (not (eqb (length object) (layout_under t b j).object_size)) (Object place) ∷ body_of (insert_object_under t b place object x j)))
      ∙ (passes (leb place (layout_of b).n) Place _ (le-leb place (layout_of b).n x.at)
      ∙ (ap (λ (y : Bool). first_of (refuse_if y Room ∷ refuse_if (not (eqb (length object) (layout_of b).object_size)) (Object place) ∷ body_of (under t b'))) x.room
      ∙ (accepted_first _
      ∙ (passes (eqb (length object) (layout_of b).object_size) (Object place) _ (eq-eqb (length object) (layout_of b).object_size x.long)
      ∙ (body_after b' x.becomes (I.keeps-length b place object h x.at x.room x.long)
      ∙ ap (λ (y : Bool). refuse_if y Length) (Inserting.long_new b place object h x.at x.room x.long set.clock_rate))))))

  pub remove_after : (place : ℕ) → Removed b place
      → first_of (remove_place_conditions (under t b) place) ≡ refuse_if (long_without b (layout_of b) set.clock_rate place) Length
  unfolding remove_place_conditions
  remove_after place x =
      let h = header_ok_lem b x.opens in
      let b' : List ℕ = remove_object place b in
      (λ j. first_of (refuse_if (not (ltb place (layout_under t b j).n)) Place ∷ body_of (remove_object_under t b place x j)))
      ∙ (passes (ltb place (layout_of b).n) Place _ (lt-ltb place (layout_of b).n x.below)
      ∙ (body_after b' x.becomes (R.keeps-length b place h x.below)
      ∙ ap (λ (y : Bool). refuse_if y Length) (Removing.long_new b place h x.below set.clock_rate)))

-- ---- An edit's conditions for the second player: those of the chart and the tables, then those of the place

module _ (t b : List ℕ) (entries : ℕ) where
  pub replace_tried : (place : ℕ) (object : List ℕ)
      → second_verdict t b (replace_verdict (under t b) place object entries)
      ≡ first_of (second_verdict t b (tried t b entries (layout_of b).n) ∷ place_conditions (under t b) place object)
  unfolding replace_conditions open_conditions tried
  replace_tried place object =
      ap (second_verdict t b) (first_append (chart_conditions (under t b) ++ (too_few entries (layout_of (under t b)).n ∷ [])) (place_conditions (under t b) place object))
      ∙ (second_then t b _ _ ∙ ap (λ (l : Layout). first_of (second_verdict t b (tried t b entries l.n) ∷ place_conditions (under t b) place object)) (layout_under t b))

  pub insert_tried : (place : ℕ) (object : List ℕ)
      → second_verdict t b (insert_verdict (under t b) place object entries)
      ≡ first_of (second_verdict t b (tried t b entries ((layout_of b).n + 1)) ∷ insert_place_conditions (under t b) place object)
  unfolding insert_conditions tried
  insert_tried place object =
      ap (second_verdict t b) (first_append (chart_conditions (under t b) ++ (too_few entries ((layout_of (under t b)).n + 1) ∷ [])) (insert_place_conditions (under t b) place object))
      ∙ (second_then t b _ _ ∙ ap (λ (l : Layout). first_of (second_verdict t b (tried t b entries (l.n + 1)) ∷ insert_place_conditions (under t b) place object)) (layout_under t b))

  pub remove_tried : (place : ℕ)
      → second_verdict t b (remove_verdict (under t b) place entries)
      ≡ first_of (second_verdict t b (tried t b entries (layout_of b).n) ∷ remove_place_conditions (under t b) place)
  unfolding remove_conditions open_conditions tried
  remove_tried place =
      ap (second_verdict t b) (first_append (chart_conditions (under t b) ++ (too_few entries (layout_of (under t b)).n ∷ [])) (remove_place_conditions (under t b) place))
      ∙ (second_then t b _ _ ∙ ap (λ (l : Layout). first_of (second_verdict t b (tried t b entries l.n) ∷ remove_place_conditions (under t b) place)) (layout_under t b))

  -- where the first player's chart meets none of 1 to 6
  pub tried_other : header_ok (under t b) ≡ true → length t ≡ settings_size → Opens b → (least : ℕ)
      → second_verdict t b (tried t b entries least)
      ≡ first_of (refuse_if (not (settings_ok (settings_at t 0))) Setting ∷ refuse_if (too_long b (layout_of b) (settings_at t 0).clock_rate) Length ∷ too_few entries least ∷ [])
  unfolding tried
  tried_other h i o least = second_passed t b _ h (eq-eqb (length t) settings_size i) ∙ chart_other t b h i o (too_few entries least)

  -- an edit that tries these conditions behind them
  module _ (v : Verdict) (cs : List Verdict) (n : ℕ) (e : second_verdict t b v ≡ first_of (second_verdict t b (tried t b entries n) ∷ cs)) {m : ℕ} (q : m ≡ n) {x : Verdict}
      (k : x ≡ second_verdict t b (tried t b entries m)) where
    again : x ≡ second_verdict t b (tried t b entries n)
    again = k ∙ ap (λ (z : ℕ). second_verdict t b (tried t b entries z)) q

    pub edit_refused : {r : Refusal} → x ≡ Err r → Err r ≡ second_verdict t b v
    edit_refused {r} f = sym (e ∙ (ap (λ (z : Verdict). first_of (z ∷ cs)) (sym again ∙ f) ∙ refused_first r cs))

    pub edit_passed : x ≡ Ok tt → {w : Verdict} → first_of cs ≡ w → w ≡ second_verdict t b v
    edit_passed f g = sym (e ∙ (ap (λ (z : Verdict). first_of (z ∷ cs)) (sym again ∙ f) ∙ (accepted_first cs ∙ g)))

    pub edit_settings : x ≡ Ok tt → (header_ok (under t b) ≡ true) × (length t ≡ settings_size)
    edit_settings f = let p = second_accepted t b (tried t b entries n) (sym again ∙ f) in (p.header, p.size)
