-- Conditions 3 to 6 of the chart with one object replaced are those that the call tests. Assumes nothing.
use Rattle.std.specs.Prelude.{Ok, Err}
use Prim.Native.Nat.{ℕ, ◌+◌, ◌-◌, ◌<◌}
use mathlib.Core.Path.{◌≡◌, refl, sym, ◌∙◌}
use mathlib.Core.Bool.{Bool, true, false, not, cond, ◌&&◌}
use mathlib.Core.List.{List, [], ◌∷◌}
use lib.Dec.{ltb, eqb}
use lib.Ieee as Ieee
use lib.Ieee.{Float}
use lib.ListN.{length}
use native.Mathlib.Decide.{ℕ_discrete}
use native.Mathlib.Omega.{arith}
use borrow.Author.Tests.{lt-ltb, ltb-true, eq-eqb, ne_eqb}
use Rattle.chart_fields.specs.Objects.{Holds, fields_at, fields_of, fields_ok, bad_fields, falls}
use Rattle.chart_fields.specs.declared.Fields.{Fields}
use Rattle.chart_fields.specs.declared.Layout.{Layout}
use Rattle.chart_entries.specs.Entries.{wrong_entries, bad_entries}
use Rattle.chart_entries.specs.Same.{wrong_same}
use Rattle.chart_opening.proofs.Header.{holds}
use Rattle.chart_opening.specs.Accepted.{Clean, clean_body, header_ok_lem, body_ok}
use Rattle.chart_opening.specs.Header.{layout_of, settings_of, too_long}
use Rattle.chart_opening.specs.Conditions.{first_of, refuse_if, body_conditions, Opens}
use Rattle.chart_opening.specs.declared.Refusal.TheVariants.{Object, Entries, Order, Length}
use Rattle.chart_opening.specs.Verdict.{Verdict}
use Rattle.chart_replacing.specs.Local.{falls_here, falls_next, new_start, new_too_long, object_conditions, new_conditions}
use Rattle.chart_replacing.specs.Replace.{put_object, place_conditions}
use Rattle.chart_replacing.proofs.Searched.{one, two}
use Rattle.chart_replacing.specs.Replaced as R

pub same_rest : (v : Verdict) (us vs : List Verdict) → first_of us ≡ first_of vs → first_of (v ∷ us) ≡ first_of (v ∷ vs)
unfolding first_of
same_rest (Ok tt) us vs e = e
same_rest (Err r) us vs e = refl

-- ---- the chart with the object at its place

module _ (s : List ℕ) (place : ℕ) (object : List ℕ)
    (H : Holds s (layout_of s)) (hp : place < (layout_of s).n) (ho : length object ≡ (layout_of s).object_size) where
  abbrev lay : Layout
  lay = layout_of s

  abbrev f : Fields
  f = fields_at object 0 lay.object_size

  here : fields_of (put_object place object s) lay place ≡ f
  here = R.here s place object H hp ho

  elsewhere : (j : ℕ) → (j ≡ place → ⊥) → fields_of (put_object place object s) lay j ≡ fields_of s lay j
  elsewhere = R.elsewhere s place object H hp ho

  wrong : (f : Fields) → wrong_entries (put_object place object s) lay f ≡ wrong_entries s lay f
  wrong = wrong_same (R.entries s place object H hp ho)

  fields_here : bad_fields (put_object place object s) lay place ≡ not (fields_ok f)
  unfolding bad_fields
  fields_here = cc here

  fields_else : (j : ℕ) → (j ≡ place → ⊥) → bad_fields (put_object place object s) lay j ≡ bad_fields s lay j
  unfolding bad_fields
  fields_else j q = cc (elsewhere j q)

  entries_here : bad_entries (put_object place object s) lay place ≡ wrong_entries s lay f
  unfolding bad_entries
  entries_here = simp here (wrong f)

  entries_else : (j : ℕ) → (j ≡ place → ⊥) → bad_entries (put_object place object s) lay j ≡ bad_entries s lay j
  unfolding bad_entries
  entries_else j q = simp (elsewhere j q) (wrong (fields_of s lay j))

  falls_here_lem : falls (put_object place object s) lay place ≡ falls_here s lay place f
  unfolding falls falls_here
  falls_here_lem = go (ltb 0 place) refl
    where
      go : (b : Bool) → ltb 0 place ≡ b
          → (b && Ieee.lt (fields_of (put_object place object s) lay place).start (fields_of (put_object place object s) lay (place - 1)).start)
          ≡ (b && Ieee.lt f.start (fields_of s lay (place - 1)).start)
      go true e = cc (here, elsewhere (place - 1) (λ q. omega (arith, ltb-true 0 place e)))
      go false e = refl

  falls_next_lem : (ltb (place + 1) lay.n && falls (put_object place object s) lay (place + 1)) ≡ falls_next s lay (place + 1) f
  unfolding falls falls_next
  falls_next_lem =
      let z : place + 1 - 1 ≡ place = omega arith in
      let t : ltb 0 (place + 1) ≡ true = lt-ltb 0 (place + 1) (omega arith) in
      simp (t, z, here, elsewhere (place + 1) (λ q. omega arith))

  falls_else : (j : ℕ) → (j ≡ place → ⊥) → (j ≡ place + 1 → ⊥) → falls (put_object place object s) lay j ≡ falls s lay j
  unfolding falls
  falls_else j q q' = cc (elsewhere j q, elsewhere (j - 1) (λ r. omega (arith, q, q')))

  start_new : (j : ℕ) → (fields_of (put_object place object s) lay j).start ≡ new_start s lay place f j
  unfolding new_start
  start_new j = go (ℕ_discrete j place)
    where
      go : Dec (j ≡ place) → (fields_of (put_object place object s) lay j).start ≡ cond (eqb j place) f.start (fields_of s lay j).start
      go (yes q) = simp (q, eq-eqb place place refl, here)
      go (no q) = simp (ne_eqb j place q, elsewhere j q)

  pub long_new : (clock : Float) → too_long (put_object place object s) lay clock ≡ new_too_long s lay clock place f
  unfolding too_long new_too_long
  long_new clock = cc (start_new (lay.n - 1), start_new 1)

  pub local : (clock : Float) → Clean s lay clock → first_of (new_conditions s lay clock place f) ≡ first_of (body_conditions (put_object place object s) lay clock)
  unfolding object_conditions body_conditions
  local clock C =
      let e3 = one Object (bad_fields (put_object place object s) lay) lay.n place hp (λ j l q. fields_else j q ∙ C.fields j l) in
      let e4 = one Entries (bad_entries (put_object place object s) lay) lay.n place hp (λ j l q. entries_else j q ∙ C.entries j l) in
      let e5 = two Order (falls (put_object place object s) lay) lay.n place hp (λ j l q q'. falls_else j q q' ∙ C.order j l) in
      simp (e3, e4, fields_here, entries_here, long_new clock)
      (same_rest _ _ _ (same_rest _ _ _ (sym (e5 (refuse_if (new_too_long s lay clock place f) Length ∷ []) ∙ simp (falls_here_lem, falls_next_lem)))))

-- what the call tests is what document 01 asks
pub at_place : (s : List ℕ) (place : ℕ) (object : List ℕ) → Opens s → place < (layout_of s).n → length object ≡ (layout_of s).object_size
    → first_of (new_conditions s (layout_of s) (settings_of s).clock_rate place (fields_at object 0 (layout_of s).object_size)) ≡ first_of (place_conditions s place object)
unfolding place_conditions first_of
at_place s place object o h l =
    let H = holds s (header_ok_lem s o) in
    simp (lt-ltb place (layout_of s).n h, eq-eqb (length object) (layout_of s).object_size l, R.layout s place object H h l, R.settings s place object H h l)
    (local s place object H h l (settings_of s).clock_rate (clean_body s (layout_of s) (settings_of s).clock_rate (body_ok s o)))
