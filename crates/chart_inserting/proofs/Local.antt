-- Conditions 3 to 6 of the chart with an object put in are those that the call tests. Assumes nothing.
use Prim.Native.Nat.{ℕ, suc, ◌+◌, ◌-◌, ◌≤◌, ◌<◌}
use mathlib.Core.Path.{◌≡◌, refl, sym, ap, ◌∙◌}
use mathlib.Core.Bool.{Bool, true, false, not, cond, ◌&&◌}
use mathlib.Core.List.{List, [], ◌∷◌}
use lib.Dec.{leb, ltb, eqb}
use lib.Ieee as Ieee
use lib.Ieee.{Float}
use lib.ListN.{length}
use native.Mathlib.Decide.{dec_lt, ℕ_discrete}
use native.Mathlib.Numerals.{add-one}
use native.Mathlib.Omega.{arith}
use borrow.Author.Tests.{ltb-true, lt-ltb, le-ltb, le-leb, lt-leb, eq-eqb, ne_eqb}
use Rattle.chart_fields.specs.Objects.{fields_at, fields_of, fields_ok, bad_fields, falls}
use Rattle.chart_fields.specs.declared.Fields.{Fields}
use Rattle.chart_fields.specs.declared.Layout.{Layout}
use Rattle.chart_entries.specs.Entries.{wrong_entries, bad_entries}
use Rattle.chart_opening.specs.Accepted.{Clean, clean_body, header_ok_lem, body_ok}
use Rattle.chart_opening.specs.Header.{layout_of, header_ok, settings_of, too_long, far_apart}
use Rattle.chart_opening.specs.Conditions.{first_of, refuse_if, body_conditions, Opens}
use Rattle.chart_opening.specs.declared.Refusal.TheVariants.{Object, Entries, Order, Length}
use Rattle.chart_replacing.specs.Local.{falls_here, falls_next, object_conditions}
use Rattle.chart_replacing.proofs.Local.{same_rest}
use Rattle.chart_replacing.proofs.Searched.{one, two}
use Rattle.chart_inserting.specs.Insert.{insert_object, no_room, insert_place_conditions}
use Rattle.chart_inserting.specs.OneMore.{OneMore}
use Rattle.chart_inserting.specs.Local.{start_with, long_with, insert_local}
use Rattle.chart_inserting.specs.Inserted as I
use Rattle.chart_inserting.proofs.Shared as S

module _ (s : List ℕ) (place : ℕ) (object : List ℕ)
    (h : header_ok s ≡ true) (hp : place ≤ (layout_of s).n) (room : no_room s ≡ false) (ho : length object ≡ (layout_of s).object_size) where
  abbrev lay : Layout
  lay = layout_of s

  abbrev new : List ℕ
  new = insert_object place object s

  abbrev lay' : Layout
  lay' = layout_of new

  abbrev f : Fields
  f = fields_at object 0 lay.object_size

  more : OneMore place s new
  more = I.one_more s place object h hp room ho

  here : fields_of new lay' place ≡ f
  here = I.here s place object h hp room ho

  count : lay'.n ≡ suc lay.n
  count = more.counts

  -- a test that is false at the old places holds at most at the new one
  clear : (bad old : ℕ → Bool) → ((j : ℕ) → j < lay.n → old j ≡ false) → ((j : ℕ) → j < place → bad j ≡ old j)
      → ((j : ℕ) → place ≤ j → j < lay.n → bad (suc j) ≡ old j) → (j : ℕ) → j < lay'.n → (j ≡ place → ⊥) → Dec (j < place) → bad j ≡ false
  clear bad old c b l j m q (yes d) = b j d ∙ c j (omega arith)
  clear bad old c b l j m q (no d) =
      let e : j ≡ suc (j - 1) = omega arith in
      let u : j - 1 < lay.n = omega (arith, count) in
      ap bad e ∙ (l (j - 1) (omega arith) u ∙ c (j - 1) u)

  fields_here : bad_fields new lay' place ≡ not (fields_ok f)
  unfolding bad_fields
  fields_here = cc here

  entries_here : bad_entries new lay' place ≡ wrong_entries s lay f
  unfolding bad_entries
  entries_here = rw here (S.wrong more f)

  falls_here_lem : falls new lay' place ≡ falls_here s lay place f
  unfolding falls falls_here
  falls_here_lem = go (ltb 0 place) refl
    where
      go : (b : Bool) → ltb 0 place ≡ b
          → (b && Ieee.lt (fields_of new lay' place).start (fields_of new lay' (place - 1)).start)
          ≡ (b && Ieee.lt f.start (fields_of s lay (place - 1)).start)
      go true e = cc (here, more.fields_before (place - 1) (omega (arith, ltb-true 0 place e)))
      go false e = refl

  later : (j : ℕ) → place ≤ j → j < lay.n → fields_of new lay' (j + 1) ≡ fields_of s lay j
  later j l m = ap (fields_of new lay') (add-one j) ∙ more.fields_later j l m

  falls_next_lem : (ltb (place + 1) lay'.n && falls new lay' (place + 1)) ≡ falls_next s lay place f
  unfolding falls falls_next
  falls_next_lem = go (dec_lt place lay.n)
    where
      go : Dec (place < lay.n)
          → (ltb (place + 1) lay'.n && (ltb 0 (place + 1) && Ieee.lt (fields_of new lay' (place + 1)).start (fields_of new lay' (place + 1 - 1)).start))
          ≡ (ltb place lay.n && Ieee.lt (fields_of s lay place).start f.start)
      go (yes l) =
          let z : place + 1 - 1 ≡ place = omega arith in
          simp (
            lt-ltb (place + 1) lay'.n (omega (arith, count)),
            lt-ltb 0 (place + 1) (omega arith),
            lt-ltb place lay.n l,
            z,
            here,
            later place (omega arith) l,
          )
      go (no l) = simp (le-ltb (place + 1) lay'.n (omega (arith, count)), le-ltb place lay.n (omega arith))

  falls_else : ((j : ℕ) → j < lay.n → falls s lay j ≡ false) → (j : ℕ) → j < lay'.n → (j ≡ place → ⊥) → (j ≡ place + 1 → ⊥) → falls new lay' j ≡ false
  falls_else c j m q q' = go (dec_lt j place)
    where
      go : Dec (j < place) → falls new lay' j ≡ false
      go (yes d) = S.falls_before more j d ∙ c j (omega arith)
      go (no d) =
          let e : j ≡ suc (j - 1) = omega arith in
          let u : j - 1 < lay.n = omega (arith, count) in
          ap (falls new lay') e ∙ (S.falls_later more (j - 1) (omega (arith, q, q')) u ∙ c (j - 1) u)

  start_new : (j : ℕ) → j ≤ lay.n → (fields_of new lay' j).start ≡ start_with s lay place f j
  unfolding start_with
  start_new j m = go (ℕ_discrete j place) (dec_lt j place)
    where
      go : Dec (j ≡ place) → Dec (j < place)
          → (fields_of new lay' j).start ≡ cond (eqb j place) f.start (fields_of s lay (cond (ltb j place) j (j - 1))).start
      go (yes q) d = simp (q, eq-eqb place place refl, here)
      go (no q) (yes d) = simp (ne_eqb j place q, lt-ltb j place d, more.fields_before j d)
      go (no q) (no d) =
          let e : j ≡ suc (j - 1) = omega (arith, q) in
          let g : fields_of new lay' j ≡ fields_of s lay (j - 1) = ap (fields_of new lay') e ∙ more.fields_later (j - 1) (omega (arith, q)) (omega (arith, q)) in
          simp (ne_eqb j place q, le-ltb j place (omega arith), g)

  pub long_new : (clock : Float) → too_long new lay' clock ≡ long_with s lay clock place f
  unfolding too_long long_with
  long_new clock = go (dec_lt 0 lay.n)
    where
      go : Dec (0 < lay.n)
          → (leb 2 lay'.n && far_apart (fields_of new lay' (lay'.n - 1)).start (fields_of new lay' 1).start clock)
          ≡ (leb 1 lay.n && far_apart (start_with s lay place f lay.n) (start_with s lay place f 1) clock)
      go (yes l) =
          let z : lay'.n - 1 ≡ lay.n = omega (arith, count) in
          simp (le-leb 2 lay'.n (omega (arith, count)), le-leb 1 lay.n l, z, start_new lay.n (omega arith), start_new 1 l)
      go (no l) = simp (lt-leb 2 lay'.n (omega (arith, count)), lt-leb 1 lay.n (omega arith))

  pub local : (clock : Float) → Clean s lay clock → first_of (insert_local s lay clock place f) ≡ first_of (body_conditions new lay' clock)
  unfolding object_conditions body_conditions
  local clock C =
      let hp' : place < lay'.n = omega (arith, count) in
      let e3 = one Object (bad_fields new lay') lay'.n place hp'
      (λ j l q. clear (bad_fields new lay') (bad_fields s lay) C.fields (S.fields_before more) (S.fields_later more) j l q (dec_lt j place)) in
      let e4 = one Entries (bad_entries new lay') lay'.n place hp'
      (λ j l q. clear (bad_entries new lay') (bad_entries s lay) C.entries (S.entries_before more) (S.entries_later more) j l q (dec_lt j place)) in
      let e5 = two Order (falls new lay') lay'.n place hp' (falls_else C.order) in
      simp (e3, e4, fields_here, entries_here, long_new clock)
      (same_rest _ _ _ (same_rest _ _ _ (sym (e5 (refuse_if (long_with s lay clock place f) Length ∷ []) ∙ simp (falls_here_lem, falls_next_lem)))))

-- what the call tests is what order 1 asks
pub at_insert : (s : List ℕ) (place : ℕ) (object : List ℕ) → Opens s → place ≤ (layout_of s).n → no_room s ≡ false → length object ≡ (layout_of s).object_size
    → first_of (insert_local s (layout_of s) (settings_of s).clock_rate place (fields_at object 0 (layout_of s).object_size)) ≡ first_of (insert_place_conditions s place object)
unfolding insert_place_conditions first_of
at_insert s place object o h r l =
    let ok = header_ok_lem s o in
    simp (le-leb place (layout_of s).n h, r, eq-eqb (length object) (layout_of s).object_size l, I.settings s place object ok h r l)
    (local s place object ok h r l (settings_of s).clock_rate (clean_body s (layout_of s) (settings_of s).clock_rate (body_ok s o)))
