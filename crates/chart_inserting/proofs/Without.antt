-- Conditions 3 to 6 of the chart with an object taken out are those that the call tests. Assumes nothing.
use Prim.Native.Nat.{ℕ, suc, ◌+◌, ◌-◌, ◌≤◌, ◌<◌}
use mathlib.Core.Path.{◌≡◌, refl, sym, ap, ◌∙◌}
use mathlib.Core.Bool.{Bool, true, false, cond, ◌&&◌}
use mathlib.Core.List.{List}
use lib.Dec.{leb, ltb}
use lib.Ieee as Ieee
use lib.Ieee.{Float}
use native.Mathlib.Decide.{dec_lt}
use native.Mathlib.Numerals.{add-one}
use native.Mathlib.Omega.{arith}
use borrow.Author.Tests.{ltb-true, lt-ltb, le-ltb, le-leb, lt-leb}
use Rattle.chart_fields.specs.Objects.{fields_of, bad_fields, falls}
use Rattle.chart_fields.specs.declared.Layout.{Layout}
use Rattle.chart_entries.specs.Entries.{bad_entries}
use Rattle.chart_opening.specs.Accepted.{Clean, clean_body, header_ok_lem, body_ok}
use Rattle.chart_opening.specs.Header.{layout_of, header_ok, settings_of, too_long, far_apart}
use Rattle.chart_opening.specs.Conditions.{first_of, refuse_if, refuse_at, body_conditions, Opens}
use Rattle.chart_opening.specs.declared.Refusal.TheVariants.{Object, Entries, Order}
use Rattle.chart_replacing.specs.Local.{falls_here}
use Rattle.chart_replacing.proofs.Searched.{at_none, one}
use Rattle.chart_inserting.specs.Insert.{remove_object, remove_place_conditions}
use Rattle.chart_inserting.specs.OneMore.{OneMore}
use Rattle.chart_inserting.specs.Local.{falls_without, start_without, long_without, remove_local}
use Rattle.chart_inserting.specs.Removed as R
use Rattle.chart_inserting.proofs.Shared as S

-- the starts of the new chart
pub start_before : (s : List ℕ) (lay : Layout) (place j : ℕ) → j < place → start_without s lay place j ≡ (fields_of s lay j).start
unfolding start_without
start_before s lay place j l = ap (λ (b : Bool). (fields_of s lay (cond b j (j + 1))).start) (lt-ltb j place l)

pub start_later : (s : List ℕ) (lay : Layout) (place j : ℕ) → place ≤ j → start_without s lay place j ≡ (fields_of s lay (j + 1)).start
unfolding start_without
start_later s lay place j l = ap (λ (b : Bool). (fields_of s lay (cond b j (j + 1))).start) (le-ltb j place l)

module _ (s : List ℕ) (place : ℕ) (h : header_ok s ≡ true) (hp : place < (layout_of s).n) where
  abbrev lay : Layout
  lay = layout_of s

  abbrev new : List ℕ
  new = remove_object place s

  abbrev lay' : Layout
  lay' = layout_of new

  more : OneMore place new s
  more = R.one_more s place h hp

  count : lay.n ≡ suc lay'.n
  count = more.counts

  -- a test that is false at the old places is false at the new ones
  clear : (bad old : ℕ → Bool) → ((j : ℕ) → j < lay.n → old j ≡ false) → ((j : ℕ) → j < place → old j ≡ bad j)
      → ((j : ℕ) → place ≤ j → j < lay'.n → old (suc j) ≡ bad j) → (j : ℕ) → j < lay'.n → bad j ≡ false
  clear bad old c b l j m = go (dec_lt j place)
    where
      go : Dec (j < place) → bad j ≡ false
      go (yes d) = sym (b j d) ∙ c j (omega arith)
      go (no d) = sym (l j (omega arith) m) ∙ c (suc j) (omega (arith, count))

  later : (j : ℕ) → place ≤ j → j < lay'.n → fields_of new lay' j ≡ fields_of s lay (j + 1)
  later j l m = sym (ap (fields_of s lay) (add-one j) ∙ more.fields_later j l m)

  falls_else : ((j : ℕ) → j < lay.n → falls s lay j ≡ false) → (j : ℕ) → j < lay'.n → (j ≡ place → ⊥) → falls new lay' j ≡ false
  falls_else c j m q = go (dec_lt j place)
    where
      go : Dec (j < place) → falls new lay' j ≡ false
      go (yes d) = sym (S.falls_before more j d) ∙ c j (omega arith)
      go (no d) = sym (S.falls_later more j (omega (arith, q)) m) ∙ c (suc j) (omega (arith, count))

  falls_here_lem : place < lay'.n → falls new lay' place ≡ falls_here s lay place (fields_of s lay (place + 1))
  unfolding falls falls_here
  falls_here_lem l = go (ltb 0 place) refl
    where
      go : (b : Bool) → ltb 0 place ≡ b
          → (b && Ieee.lt (fields_of new lay' place).start (fields_of new lay' (place - 1)).start)
          ≡ (b && Ieee.lt (fields_of s lay (place + 1)).start (fields_of s lay (place - 1)).start)
      go true e = cc (later place (omega arith) l, more.fields_before (place - 1) (omega (arith, ltb-true 0 place e)))
      go false e = refl

  order : ((j : ℕ) → j < lay.n → falls s lay j ≡ false) → refuse_at Order (falls new lay') lay'.n ≡ refuse_if (falls_without s lay place) (Order place)
  unfolding falls_without
  order c = go (dec_lt place lay'.n)
    where
      go : Dec (place < lay'.n) → refuse_at Order (falls new lay') lay'.n
          ≡ refuse_if (ltb (place + 1) lay.n && falls_here s lay place (fields_of s lay (place + 1))) (Order place)
      go (yes l) =
          let t : ltb (place + 1) lay.n ≡ true = lt-ltb (place + 1) lay.n (omega (arith, count)) in
          one Order (falls new lay') lay'.n place l (falls_else c) ∙ simp (t, falls_here_lem l)
      go (no l) =
          let t : ltb (place + 1) lay.n ≡ false = le-ltb (place + 1) lay.n (omega (arith, count)) in
          at_none Order (falls new lay') lay'.n (λ j m. falls_else c j m (λ q. omega arith)) ∙ simp t

  start_new : (j : ℕ) → j < lay'.n → (fields_of new lay' j).start ≡ start_without s lay place j
  start_new j m = go (dec_lt j place)
    where
      go : Dec (j < place) → (fields_of new lay' j).start ≡ start_without s lay place j
      go (yes d) = rw (more.fields_before j d) at (sym (start_before s lay place j d))
      go (no d) = rw (later j (omega arith) m) (sym (start_later s lay place j (omega arith)))

  pub long_new : (clock : Float) → too_long new lay' clock ≡ long_without s lay clock place
  unfolding too_long long_without
  long_new clock = go (dec_lt 1 lay'.n)
    where
      go : Dec (1 < lay'.n)
          → (leb 2 lay'.n && far_apart (fields_of new lay' (lay'.n - 1)).start (fields_of new lay' 1).start clock)
          ≡ (leb 3 lay.n && far_apart (start_without s lay place (lay.n - 2)) (start_without s lay place 1) clock)
      go (yes l) =
          let z : lay.n - 2 ≡ lay'.n - 1 = omega (arith, count) in
          simp (le-leb 2 lay'.n l, le-leb 3 lay.n (omega (arith, count)), z, start_new (lay'.n - 1) (omega arith), start_new 1 l)
      go (no l) = simp (lt-leb 2 lay'.n (omega arith), lt-leb 3 lay.n (omega (arith, count)))

  pub local : (clock : Float) → Clean s lay clock → first_of (remove_local s lay clock place) ≡ first_of (body_conditions new lay' clock)
  unfolding remove_local body_conditions first_of
  local clock C =
      let e3 = at_none Object (bad_fields new lay') lay'.n
      (clear (bad_fields new lay') (bad_fields s lay) C.fields (S.fields_before more) (S.fields_later more)) in
      let e4 = at_none Entries (bad_entries new lay') lay'.n
      (clear (bad_entries new lay') (bad_entries s lay) C.entries (S.entries_before more) (S.entries_later more)) in
      simp (e3, e4, order C.order, long_new clock)

-- what the call tests is what order 1 asks
pub at_remove : (s : List ℕ) (place : ℕ) → Opens s → place < (layout_of s).n
    → first_of (remove_local s (layout_of s) (settings_of s).clock_rate place) ≡ first_of (remove_place_conditions s place)
unfolding remove_place_conditions first_of
at_remove s place o h =
    let ok = header_ok_lem s o in
    simp (lt-ltb place (layout_of s).n h, R.settings s place ok h)
    (local s place ok h (settings_of s).clock_rate (clean_body s (layout_of s) (settings_of s).clock_rate (body_ok s o)))
