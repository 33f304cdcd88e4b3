-- The place that a refusal returns. Assumes nothing.
use Rattle.std.specs.Prelude.{Ok, Err}
use mathlib.Core.Path.{◌≡◌, refl, sym, ap, ◌∙◌, subst}
use mathlib.Core.List.{List, [], ◌∷◌, ◌++◌}
use mathlib.Core.Bool.{Bool, true, false, cond, not, ◌&&◌}
use Prim.Native.Nat.{ℕ, zero, suc, ◌+◌, ◌/◌, ◌<◌}
use native.Mathlib.Omega.{arith}
use lib.Dec.{ltb, leb, eqb}
use lib.ListN.{length}
use borrow.Author.Tests.{ltb-true, ltb-false, leb-true, leb-false, eqb-true, eqb-false}
use Rattle.chart_fields.specs.Search.{first_from, first_below}
use Rattle.chart_fields.proofs.Search.{clean}
use Rattle.chart_fields.specs.Objects.{bad_fields, falls}
use Rattle.chart_entries.specs.Entries.{bad_entries}
use Rattle.chart_opening.specs.Header.{layout_of, header_ok, settings_of, settings_ok, too_long}
use Rattle.chart_opening.specs.Conditions.{Opens, refusal_number, refusal_place, refuse_if, refuse_at, first_of, body_conditions, body_of, chart_conditions, too_few, open_conditions, open_verdict}
use Rattle.chart_opening.specs.Accepted.{first_accepts, first_refused, first_passed, refuses}
use Rattle.chart_opening.specs.declared.Refusal.{Refusal}
use Rattle.chart_opening.specs.declared.Refusal.TheVariants.{Header, Setting, Object, Entries, Order, Length, Table, Place, Room, NotFinite}
use Rattle.chart_opening.specs.Verdict.{Verdict}
use Rattle.chart_replacing.specs.Replace.{put_object, place_conditions, replace_conditions}
use Rattle.chart_inserting.specs.Insert.{insert_object, remove_object, no_room, insert_place_conditions, insert_conditions, remove_place_conditions, remove_conditions}
use Rattle.skills_stars.specs.Stars.{finite_asked}
use Rattle.calls.specs.Tables.{entries_of}
use Rattle.calls.specs.Afresh.{Detail, Figure, totals, counts, totals_to, playing, ratings, count}
use Rattle.calls.specs.Conditions.{Lengths, scratch_short, replace, insert, remove, read_record, read_values, read_detail, figure, row_conditions, read_conditions, read_verdict, sum_conditions, asked_conditions, figure_conditions, opening, refusal}
use Rattle.calls.specs.Statement.{Lowest, Placed, ReplacePlaced, of_chart, of_place, of_length, of_result, InsertPlaced, insert_of_chart, insert_of_place, insert_of_room, insert_of_length, insert_of_result, RemovePlaced, remove_of_chart, remove_of_place, remove_of_result}

pub same_refusal : {q r : Refusal} → ◌≡◌ {A = Verdict} (Err q) (Err r) → q ≡ r
same_refusal e = cc

-- P holds of every refusal that a list of conditions can give
module _ (P : Refusal → Type 0) where
  abbrev Each : List Verdict → Type 0
  Each [] = Unit {0}
  Each (v ∷ vs) = ((q : Refusal) → v ≡ Err q → P q) × Each vs

  first_each : (vs : List Verdict) → Each vs → (q : Refusal) → first_of vs ≡ Err q → P q
  unfolding first_of
  first_each [] h q e = absurd (refuses (sym e))
  first_each ((Ok tt) ∷ vs) h q e = first_each vs h.1 q e
  first_each (Err r ∷ vs) h q e = h.0 q e

  each_append : (us vs : List Verdict) → Each us → Each vs → Each (us ++ vs)
  each_append [] vs h g = g
  each_append (u ∷ us) vs h g = (h.0, each_append us vs h.1 g)

  each_if : (test : Bool) (r : Refusal) → P r → (q : Refusal) → refuse_if test r ≡ Err q → P q
  each_if true r p q e = subst P (same_refusal e) p
  each_if false r p q e = absurd (refuses (sym e))

-- ---- The search for the lowest place stops at a place where the test holds, or past the last

offends_step : (test : ℕ → Bool) (k i : ℕ) (t : Bool) → test i ≡ t → cond t i (first_from test k (suc i)) < i + suc k
    → (first_from test k (suc i) < suc i + k → test (first_from test k (suc i)) ≡ true) → test (cond t i (first_from test k (suc i))) ≡ true
offends_step test k i true e h r = e
offends_step test k i false e h r = r (omega arith)

offends_from : (test : ℕ → Bool) (k i : ℕ) → first_from test k i < i + k → test (first_from test k i) ≡ true
unfolding first_from
offends_from test zero i h = absurd (omega arith)
offends_from test (suc k) i h = offends_step test k i (test i) refl h (offends_from test k (suc i))

offends : (test : ℕ → Bool) (n : ℕ) → first_below test n < n → test (first_below test n) ≡ true
unfolding first_below
offends test n h = offends_from test n 0 (omega arith)

each_at : (P : Refusal → Type 0) (r : ℕ → Refusal) (test : ℕ → Bool) (n : ℕ) → ((j : ℕ) → Lowest test n j → P (r j)) → (q : Refusal) → refuse_at r test n ≡ Err q → P q
each_at P r test n h q e = go (ltb (first_below test n) n) refl e
  where
    go : (t : Bool) → ltb (first_below test n) n ≡ t → refuse_if t (r (first_below test n)) ≡ Err q → P q
    go true l f =
        let b : first_below test n < n = ltb-true (first_below test n) n l in
        subst P (same_refusal f) (h (first_below test n) (record { below = b; offends = offends test n b; none_lower = λ i g. clean test n i (omega arith) }))
    go false l f = absurd (refuses (sym f))

-- ---- Conditions 1 to 7

body_placed : (b : List ℕ) → Each (Placed b) (body_of b)
unfolding body_conditions
body_placed b = (
  each_at (Placed b) Object (bad_fields b (layout_of b)) (count b) (λ j l. l),
  (
    each_at (Placed b) Entries (bad_entries b (layout_of b)) (count b) (λ j l. l),
    (each_at (Placed b) Order (falls b (layout_of b)) (count b) (λ j l. l), (each_if (Placed b) (too_long b (layout_of b) (settings_of b).clock_rate) Length tt, tt)),
  ),
)

chart_placed : (b : List ℕ) → Each (Placed b) (chart_conditions b)
unfolding chart_conditions
chart_placed b = (each_if (Placed b) (not (header_ok b)) Header tt, (each_if (Placed b) (not (settings_ok (settings_of b))) Setting tt, body_placed b))

few_placed : (b : List ℕ) (entries : ℕ) (q : Refusal) → too_few entries (count b) ≡ Err q → Placed b q
few_placed b entries = each_if (Placed b) (ltb entries (count b)) Table tt

open_placed : (b : List ℕ) (entries : ℕ) (q : Refusal) → open_verdict b entries ≡ Err q → Placed b q
unfolding open_conditions
open_placed b entries = first_each (Placed b) _ (each_append (Placed b) (chart_conditions b) _ (chart_placed b) (few_placed b entries, tt))

pub opening_placed : (r v : ℕ) (b : List ℕ) (q : Refusal) → opening r v b ≡ Err q → Placed b q
opening_placed r v b = open_placed b (entries_of r v)

asked_placed : (f : Figure) (b : List ℕ) → Each (Placed b) (asked_conditions f (count b))
unfolding asked_conditions
asked_placed totals b = tt
asked_placed counts b = tt
asked_placed (totals_to m) b = (each_if (Placed b) (ltb (count b) m) Place tt, tt)
asked_placed (playing entries) b = (each_if (Placed b) (ltb entries (count b + 1)) Table tt, tt)
asked_placed (ratings asked) b = (each_if (Placed b) (not (finite_asked asked)) NotFinite tt, tt)

pub figure_placed : (f : Figure) (l : Lengths) (r v : ℕ) (b : List ℕ) (q : Refusal) → refusal (figure f l) r v b ≡ Err q → Placed b q
unfolding refusal figure_conditions sum_conditions
figure_placed f l r v b =
    first_each (Placed b) _
    (each_append (Placed b) (chart_conditions b ++ (too_few (v / 5) (count b) ∷ refuse_if (scratch_short l) Table ∷ [])) _
    (each_append (Placed b) (chart_conditions b) _ (chart_placed b) (few_placed b (v / 5), (each_if (Placed b) (scratch_short l) Table tt, tt)))
    (asked_placed f b))

-- ---- A reading: 1, 7 and 8, with place 0

read_placed : (b : List ℕ) (entries k : ℕ) (q : Refusal) → read_verdict b entries k ≡ Err q → refusal_place q ≡ 0
unfolding read_conditions row_conditions
read_placed b entries k =
    let P : Refusal → Type 0 = λ q. refusal_place q ≡ 0 in
    first_each P _ (each_if P (not (header_ok b)) Header refl, (each_if P (ltb entries (count b)) Table refl, (each_if P (not (ltb 0 k && ltb k (count b))) Place refl, tt)))

pub record-placed : (k r v : ℕ) (b : List ℕ) (q : Refusal) → refusal (read_record k) r v b ≡ Err q → refusal_place q ≡ 0
unfolding refusal
record-placed k r v b = read_placed b (r / 16) k

pub values_placed : (k r v : ℕ) (b : List ℕ) (q : Refusal) → refusal (read_values k) r v b ≡ Err q → refusal_place q ≡ 0
unfolding refusal
values_placed k r v b = read_placed b (v / 5) k

pub detail_placed : (d : Detail) (k r v : ℕ) (b : List ℕ) (q : Refusal) → refusal (read_detail d k) r v b ≡ Err q → refusal_place q ≡ 0
unfolding refusal
detail_placed d k r v b = read_placed b (r / 16) k

-- ---- A replacement

module _ (k : ℕ) (o : List ℕ) (r v : ℕ) (b : List ℕ) (q : Refusal) where
  at_place : opening r v b ≡ Ok tt → first_of (place_conditions b k o) ≡ Err q → ReplacePlaced k o r v b q
  unfolding place_conditions first_of
  at_place a e = go (ltb k (count b)) refl (eqb (length o) (layout_of b).object_size) refl e
    where
      go : (s : Bool) → ltb k (count b) ≡ s → (t : Bool) → eqb (length o) (layout_of b).object_size ≡ t
          → first_of (refuse_if (not s) Place ∷ refuse_if (not t) (Object k) ∷ body_of (put_object k o b)) ≡ Err q → ReplacePlaced k o r v b q
      go false l t m f = of_place a (ltb-false k (count b) l) (sym (same_refusal f))
      go true l false m f = of_length a (ltb-true k (count b) l) (eqb-false (length o) (layout_of b).object_size m) (sym (same_refusal f))
      go true l true m f =
          of_result a (ltb-true k (count b) l) (eqb-true (length o) (layout_of b).object_size m) (first_each (Placed (put_object k o b)) (body_of (put_object k o b)) (body_placed (put_object k o b)) q f)

  pub replace_placed : refusal (replace k o) r v b ≡ Err q → ReplacePlaced k o r v b q
  unfolding refusal replace_conditions
  replace_placed e = go (opening r v b) refl
    where
      go : (w : Verdict) → opening r v b ≡ w → ReplacePlaced k o r v b q
      go (Ok tt) a = at_place a (sym (first_passed (open_conditions b (entries_of r v)) (place_conditions b k o) a) ∙ e)
      go (Err p) a =
          let s : p ≡ q = same_refusal (sym (first_refused (open_conditions b (entries_of r v)) (place_conditions b k o) p a) ∙ e) in
          let f : opening r v b ≡ Err q = a ∙ ap Err s in
          of_chart f (opening_placed r v b q f)

-- ---- An insertion

module _ (k : ℕ) (o : List ℕ) (r v : ℕ) (b : List ℕ) (q : Refusal) where
  -- 1 to 7 for the chart as it is lent
  abbrev asks : List Verdict
  asks = chart_conditions b ++ (too_few (entries_of r v) (count b + 1) ∷ [])

  asks_placed : Each (Placed b) asks
  asks_placed = each_append (Placed b) (chart_conditions b) _ (chart_placed b) (each_if (Placed b) (ltb (entries_of r v) (count b + 1)) Table tt, tt)

  in_place : Opens b → first_of (insert_place_conditions b k o) ≡ Err q → InsertPlaced k o r v b q
  unfolding insert_place_conditions first_of
  in_place a e = go (leb k (count b)) refl (no_room b) refl (eqb (length o) (layout_of b).object_size) refl e
    where
      go : (s : Bool) → leb k (count b) ≡ s → (u : Bool) → no_room b ≡ u → (t : Bool) → eqb (length o) (layout_of b).object_size ≡ t
          → first_of (refuse_if (not s) Place ∷ refuse_if u Room ∷ refuse_if (not t) (Object k) ∷ body_of (insert_object k o b)) ≡ Err q → InsertPlaced k o r v b q
      go false l u n t m f = insert_of_place a (leb-false k (count b) l) (sym (same_refusal f))
      go true l true n t m f = insert_of_room a (leb-true k (count b) l) n (sym (same_refusal f))
      go true l false n false m f = insert_of_length a (leb-true k (count b) l) n (eqb-false (length o) (layout_of b).object_size m) (sym (same_refusal f))
      go true l false n true m f =
          insert_of_result a (leb-true k (count b) l) n (eqb-true (length o) (layout_of b).object_size m) (first_each (Placed (insert_object k o b)) (body_of (insert_object k o b)) (body_placed (insert_object k o b)) q f)

  pub insert_placed : refusal (insert k o) r v b ≡ Err q → InsertPlaced k o r v b q
  unfolding refusal insert_conditions
  insert_placed e = go (first_of asks) refl
    where
      go : (w : Verdict) → first_of asks ≡ w → InsertPlaced k o r v b q
      go (Ok tt) a = in_place (first_accepts (chart_conditions b) _ a) (sym (first_passed asks (insert_place_conditions b k o) a) ∙ e)
      go (Err p) a =
          let s : p ≡ q = same_refusal (sym (first_refused asks (insert_place_conditions b k o) p a) ∙ e) in
          let f : first_of asks ≡ Err q = a ∙ ap Err s in
          insert_of_chart f (first_each (Placed b) asks asks_placed q f)

-- ---- A removal

module _ (k r v : ℕ) (b : List ℕ) (q : Refusal) where
  out_place : opening r v b ≡ Ok tt → first_of (remove_place_conditions b k) ≡ Err q → RemovePlaced k r v b q
  unfolding remove_place_conditions first_of
  out_place a e = go (ltb k (count b)) refl e
    where
      go : (s : Bool) → ltb k (count b) ≡ s → first_of (refuse_if (not s) Place ∷ body_of (remove_object k b)) ≡ Err q → RemovePlaced k r v b q
      go false l f = remove_of_place a (ltb-false k (count b) l) (sym (same_refusal f))
      go true l f = remove_of_result a (ltb-true k (count b) l) (first_each (Placed (remove_object k b)) (body_of (remove_object k b)) (body_placed (remove_object k b)) q f)

  pub remove_placed : refusal (remove k) r v b ≡ Err q → RemovePlaced k r v b q
  unfolding refusal remove_conditions
  remove_placed e = go (opening r v b) refl
    where
      go : (w : Verdict) → opening r v b ≡ w → RemovePlaced k r v b q
      go (Ok tt) a = out_place a (sym (first_passed (open_conditions b (entries_of r v)) (remove_place_conditions b k) a) ∙ e)
      go (Err p) a =
          let s : p ≡ q = same_refusal (sym (first_refused (open_conditions b (entries_of r v)) (remove_place_conditions b k) p a) ∙ e) in
          let f : opening r v b ≡ Err q = a ∙ ap Err s in
          remove_of_chart f (opening_placed r v b q f)

-- ---- Number and place tell which refusal it is

named : ℕ → ℕ → Refusal
named n p =
    cond (eqb n 1) Header (cond (eqb n 2) Setting (cond (eqb n 3) (Object p) (cond (eqb n 4) (Entries p) (cond (eqb n 5) (Order p) (cond (eqb n 6) Length (cond (eqb n 7) Table (cond (eqb n 8) Place (cond (eqb n 9) Room NotFinite))))))))

named_by : (q : Refusal) → named (refusal_number q) (refusal_place q) ≡ q
unfolding named
named_by Header = refl
named_by Setting = refl
named_by (Object i) = refl
named_by (Entries i) = refl
named_by (Order i) = refl
named_by Length = refl
named_by Table = refl
named_by Place = refl
named_by Room = refl
named_by NotFinite = refl

pub refusal_told : (q q' : Refusal) → refusal_number q ≡ refusal_number q' → refusal_place q ≡ refusal_place q' → q ≡ q'
refusal_told q q' e f = sym (named_by q) ∙ ((λ i. named (e i) (f i)) ∙ named_by q')
