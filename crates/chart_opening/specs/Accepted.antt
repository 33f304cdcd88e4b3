-- What a list of conditions tells that is met nowhere, and what a chart tells that opens: the header, the settings, and that 3, 4 and 5 hold at no place
-- (`clean_body`). Assumes nothing.
use Rattle.std.specs.Prelude.{ℕ, ◌≤◌, ◌<◌, ◌≡◌, refl, Bool, true, false, not, List, [], ◌∷◌, ◌++◌, ltb, Float, Ok, Err}
use Rattle.std.proofs.Common.{◌∙◌, arith}
use borrow.Author.Tests.{ltb-false, le-ltb, not-false}
use Rattle.chart_fields.specs.Objects.{bad_fields, falls}
use Rattle.chart_fields.specs.Search.{first_below}
use Rattle.chart_fields.specs.declared.Layout.{Layout}
use Rattle.chart_fields.proofs.Search.{clean}
use Rattle.chart_entries.specs.Entries.{bad_entries}
use Rattle.chart_opening.specs.Header.{layout_of, header_ok, settings_of, settings_ok, too_long}
use Rattle.chart_opening.specs.Conditions.{refuse_if, refuse_at, first_of, body_conditions, body_of, chart_conditions, Opens, open_conditions, open_verdict}
use Rattle.chart_opening.specs.declared.Refusal.{Refusal}
use Rattle.chart_opening.specs.declared.Refusal.TheVariants.{Header, Setting, Object, Entries, Order, Length, Table}
use Rattle.chart_opening.specs.Verdict.{Verdict}

-- ---- Lists of conditions

pub refuses : {r : Refusal} → ◌≡◌ {A = Verdict} (Err r) (Ok tt) → ⊥
refuses e = let z : ◌≡◌ {A = ℕ} 0 1 = cc in omega arith

-- a condition that is not met
pub not_met : (test : Bool) (r : Refusal) → refuse_if test r ≡ Ok tt → test ≡ false
not_met true r e = absurd (refuses e)
not_met false r e = refl

pub is_met : (test : Bool) (r : Refusal) → refuse_if (not test) r ≡ Ok tt → test ≡ true
is_met test r e = not-false test (not_met (not test) r e)

-- it passed every place
pub clear_at : (r : ℕ → Refusal) (bad : ℕ → Bool) (n : ℕ) → refuse_at r bad n ≡ Ok tt → (j : ℕ) → j < n → bad j ≡ false
clear_at r bad n e j h = clean bad n j (omega (arith, ltb-false (first_below bad n) n (not_met (ltb (first_below bad n) n) _ e)))

-- a list that accepts: its first condition, and the others
pub head_accepts : (v : Verdict) (vs : List Verdict) → first_of (v ∷ vs) ≡ Ok tt → v ≡ Ok tt
unfolding first_of
head_accepts (Ok tt) vs e = refl
head_accepts (Err r) vs e = e

pub tail_accepts : (v : Verdict) (vs : List Verdict) → first_of (v ∷ vs) ≡ Ok tt → first_of vs ≡ Ok tt
unfolding first_of
tail_accepts (Ok tt) vs e = e
tail_accepts (Err r) vs e = absurd (refuses e)

-- two lists, one behind the other
pub first_accepts : (us vs : List Verdict) → first_of (us ++ vs) ≡ Ok tt → first_of us ≡ Ok tt
unfolding first_of
first_accepts [] vs e = refl
first_accepts ((Ok tt) ∷ us) vs e = first_accepts us vs e
first_accepts (Err r ∷ us) vs e = e

pub then_accepts : (us vs : List Verdict) → first_of (us ++ vs) ≡ Ok tt → first_of vs ≡ Ok tt
unfolding first_of
then_accepts [] vs e = e
then_accepts ((Ok tt) ∷ us) vs e = then_accepts us vs e
then_accepts (Err r ∷ us) vs e = absurd (refuses e)

pub first_refused : (us vs : List Verdict) (r : Refusal) → first_of us ≡ Err r → first_of (us ++ vs) ≡ Err r
unfolding first_of
first_refused [] vs r e = cc
first_refused ((Ok tt) ∷ us) vs r e = first_refused us vs r e
first_refused (Err q ∷ us) vs r e = e

pub first_passed : (us vs : List Verdict) → first_of us ≡ Ok tt → first_of (us ++ vs) ≡ first_of vs
unfolding first_of
first_passed [] vs e = refl
first_passed ((Ok tt) ∷ us) vs e = first_passed us vs e
first_passed (Err q ∷ us) vs e = absurd (refuses e)

-- ---- Conditions 3 to 6

pub record Clean (s : List ℕ) (lay : Layout) (clock : Float) : Type 0 where
  pub fields : (j : ℕ) → j < lay.n → bad_fields s lay j ≡ false
  pub entries : (j : ℕ) → j < lay.n → bad_entries s lay j ≡ false
  pub order : (j : ℕ) → j < lay.n → falls s lay j ≡ false
  pub short : too_long s lay clock ≡ false

pub clean_body : (s : List ℕ) (lay : Layout) (clock : Float) → first_of (body_conditions s lay clock) ≡ Ok tt → Clean s lay clock
unfolding body_conditions
clean_body s lay clock e =
    let e4 = tail_accepts _ _ e in
    let e5 = tail_accepts _ _ e4 in
    record {
      fields = clear_at Object (bad_fields s lay) lay.n (head_accepts _ _ e);
      entries = clear_at Entries (bad_entries s lay) lay.n (head_accepts _ _ e4);
      order = clear_at Order (falls s lay) lay.n (head_accepts _ _ e5);
      short = not_met (too_long s lay clock) Length (head_accepts _ _ (tail_accepts _ _ e5));
    }

-- ---- Conditions 1 to 6, and 7

module _ (s : List ℕ) (o : Opens s) where
  pub header_ok_lem : header_ok s ≡ true
  unfolding chart_conditions
  header_ok_lem = is_met (header_ok s) Header (head_accepts _ _ o)

  pub settings_ok_lem : settings_ok (settings_of s) ≡ true
  unfolding chart_conditions
  settings_ok_lem = is_met (settings_ok (settings_of s)) Setting (head_accepts _ _ (tail_accepts _ _ o))

  pub body_ok : first_of (body_of s) ≡ Ok tt
  unfolding chart_conditions
  body_ok = tail_accepts _ _ (tail_accepts _ _ o)

pub opens_by : (s : List ℕ) → header_ok s ≡ true → settings_ok (settings_of s) ≡ true → first_of (body_of s) ≡ Ok tt → Opens s
unfolding chart_conditions first_of
opens_by s h t b = simp (h, t, b)

module _ (s : List ℕ) (entries : ℕ) where
  pub opens : open_verdict s entries ≡ Ok tt → Opens s
  unfolding open_conditions
  opens e = first_accepts (chart_conditions s) _ e

  pub enough : open_verdict s entries ≡ Ok tt → (layout_of s).n ≤ entries
  unfolding open_conditions
  enough e = ltb-false entries (layout_of s).n (not_met _ Table (head_accepts _ _ (then_accepts (chart_conditions s) _ e)))

  pub opens_with : Opens s → (layout_of s).n ≤ entries → open_verdict s entries ≡ Ok tt
  unfolding open_conditions first_of
  opens_with o h = first_passed (chart_conditions s) _ o ∙ simp (le-ltb entries (layout_of s).n h)
