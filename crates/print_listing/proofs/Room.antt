-- The lines of places one by one, and how long a listing is at most. Assumes nothing.
use Rattle.std.specs.Prelude.{Ok, Err}
use Prim.Native.Nat.{ℕ, zero, suc, ◌+◌, ◌-◌, ◌*◌, ◌≤◌, ◌<◌}
use native.Mathlib.Omega.{arith}
use mathlib.Core.Path.{◌≡◌, refl, sym, ap, ◌∙◌}
use mathlib.Core.Bool.{Bool, true, false, cond}
use mathlib.Core.List.{List, ◌++◌}
use borrow.Author.Tests.{ltb-false, lt-ltb, le-ltb}
use lib.Dec.{ltb}
use lib.Ieee.{Float}
use lib.ListN.{length, take, drop, length-append}
use lib.Seq.{take_at}
use Rattle.print_text.specs.Buffer.{Puts, then, same_text, fits, length_kept}
use Rattle.num_tables.specs.Parts.{row}
use Rattle.chart_opening.specs.Header.{layout_of}
use Rattle.print_lines.specs.Lines.{place_text, totals_text, counts_text, count_text, refusal_text}
use Rattle.print_lines.specs.Lengths.{refusal_length, count-length, place_length, totals_length, counts_length}
use Rattle.eval_values.specs.Laws.{values_width}
use Rattle.chart_opening.specs.Conditions.{refusal_number, refusal_place, first_of, if_accepted, chart_conditions}
use Rattle.chart_opening.specs.Verdict.{Verdict}
use Rattle.calls.specs.Afresh.{fresh_values}
use Rattle.print_listing.specs.List.{limit, beyond_text, met_text, places_text, opened_text, values_afresh, totals_afresh, counts_afresh, afresh_text, chart_text, list_text, most_listed, Filled}
use Rattle.print_listing.proofs.Calls.{few_objects}

-- ---- A turn of the loop over places

pub place_turn : {out out₁ out₂ : List ℕ} {at e₁ e₂ : ℕ} (values : ℕ → List Float) (j : ℕ) → 1 ≤ j → Puts (places_text values (j - 1)) out at out₁ e₁
    → Puts (place_text j (values j)) out₁ e₁ out₂ e₂ → Puts (places_text values (j + 1 - 1)) out at out₂ e₂
unfolding places_text
place_turn values j h p q =
    let e : j ≡ suc (j - 1) = omega arith in
    let k : j + 1 - 1 ≡ suc (j - 1) = omega arith in
    let t : places_text values (j - 1) ++ place_text j (values j) ≡ places_text values (suc (j - 1)) =
    ap (λ (i : ℕ). places_text values (j - 1) ++ place_text i (values i)) e in
    rw k (same_text t (then p q))

-- ---- The table's values are those worked out afresh

places_same : (f g : ℕ → List Float) (k : ℕ) → ((j : ℕ) → 1 ≤ j → j ≤ k → f j ≡ g j) → places_text f k ≡ places_text g k
unfolding places_text
places_same f g zero h = refl
places_same f g (suc k) h =
    λ i. places_same f g k (λ j a c. h j a (omega arith)) i ++ place_text (suc k) (h (suc k) (omega arith) (omega arith) i)

pub filled_text : (b : List ℕ) (vs : List Float) → Filled b vs → (n : ℕ) → n ≡ (layout_of b).n
    → count_text n ++ places_text (row 5 vs) (n - 1) ++ totals_text (totals_afresh b) ++ counts_text (counts_afresh b) ≡ afresh_text b
unfolding afresh_text opened_text
filled_text b vs f n e =
    (λ i. count_text (e i) ++ places_text (row 5 vs) (e i - 1) ++ totals_text (totals_afresh b) ++ counts_text (counts_afresh b))
    ∙ ap (λ (t : List ℕ). count_text (layout_of b).n ++ t ++ totals_text (totals_afresh b) ++ counts_text (counts_afresh b))
    (places_same (row 5 vs) (values_afresh b) ((layout_of b).n - 1) (λ j a c. f.values j a (omega arith)))

-- ---- The limit

pub beyond_text_lem : (b : List ℕ) → limit < length b → refusal_text 7 0 ≡ list_text b
unfolding list_text beyond_text
beyond_text_lem b h = sym (ap (λ (t : Bool). cond t (refusal_text 7 0) (chart_text b)) (lt-ltb limit (length b) h))

pub within_text : (b : List ℕ) → length b ≤ limit → chart_text b ≡ list_text b
unfolding list_text
within_text b h = sym (ap (λ (t : Bool). cond t beyond_text (chart_text b)) (le-ltb limit (length b) h))

-- ---- Lengths

places_length : (f : ℕ → List Float) → ((j : ℕ) → length (f j) ≡ 5) → (k : ℕ) → length (places_text f k) ≤ 106 * k
unfolding places_text
places_length f h zero = omega arith
places_length f h (suc k) =
    simp length-append (omega (arith, places_length f h k, place_length (suc k) (f (suc k)), h (suc k)))

afresh_length : (b : List ℕ) → (layout_of b).n ≤ most_listed → length (afresh_text b) ≤ 65536
unfolding afresh_text opened_text fresh_values
afresh_length b h =
    let n = (layout_of b).n in
    simp length-append
    (omega (arith, count-length n, places_length (values_afresh b) (λ j. values_width _ _ _ _ j) (n - 1), totals_length (totals_afresh b), counts_length (counts_afresh b)))

-- 65,536 bytes are enough for every listing
pub list_length : (b : List ℕ) → length (list_text b) ≤ 65536
unfolding list_text chart_text beyond_text met_text if_accepted
list_length b = go (ltb limit (length b)) refl (first_of (chart_conditions b)) refl
  where
    go : (t : Bool) → ltb limit (length b) ≡ t → (q : Verdict) → first_of (chart_conditions b) ≡ q
        → length (cond t (refusal_text 7 0) (if_accepted q (afresh_text b) (λ r. refusal_text (refusal_number r) (refusal_place r)))) ≤ 65536
    go true e q o = omega (arith, refusal_length 7 0)
    go false e (Ok tt) o = afresh_length b (few_objects b o (ltb-false limit (length b) e))
    go false e (Err r) o = omega (arith, refusal_length (refusal_number r) (refusal_place r))

-- so that a listing at the start of such a buffer stands there whole
pub listed : (b : List ℕ) {out out' : List ℕ} {end : ℕ} → Puts (list_text b) out 0 out' end → 65536 ≤ length out
    → (end ≤ length out') × (take end out' ≡ list_text b)
listed b {out} {out'} {end} p h =
    let l = list_length b in
    let (bytes, offset) = fits p (omega arith) in
    (omega (arith, length_kept p), ap (take end) bytes ∙ take_at (list_text b) (drop (0 + length (list_text b)) out) end (omega arith))
