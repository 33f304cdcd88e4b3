-- The conditions of a listed chart, as the code tries them, and what follows where none is met. Assumes nothing.
use Rattle.std.specs.Prelude.{Ok, Err}
use Prim.Native.Nat.{ℕ, zero, suc, ◌+◌, ◌≤◌, ◌<◌}
use mathlib.Core.Path.{◌≡◌, refl, sym, ap, ap₂, ◌∙◌}
use mathlib.Core.Bool.{Bool, true, false, not}
use mathlib.Core.List.{List, [], ◌∷◌, map}
use native.Mathlib.Nat.{not-suc-le-zero, le_of_suc-le-suc}
use native.Mathlib.Numerals.{add-one}
use native.Mathlib.Omega.{arith}
use lib.Dec.{ltb}
use lib.ListN.{length, drop, get_or, drop_of_length-le}
use lib.Seq.{drop-cons}
use borrow.Author.Tests.{lt-ltb, le-ltb, ltb-false}
use Rattle.chart_opening.specs.Conditions.{refuse_if, first_of, open_verdict}
use Rattle.chart_opening.specs.Accepted.{opens_with, header_ok_lem, is_met, not_met, head_accepts, tail_accepts, first_accepts}
use Rattle.chart_opening.proofs.Header.{parts, holds}
use Rattle.chart_opening.specs.declared.Refusal.{Refusal}
use Rattle.chart_opening.specs.declared.Refusal.TheVariants.{Header, Table, Place, NotFinite}
use Rattle.chart_opening.specs.Verdict.{Verdict}
use Rattle.skills_stars.specs.Stars.{finite_asked}
use Rattle.skills_stars.specs.declared.Asked.{Asked}
use Rattle.calls.specs.Tables.{value_entries, entries_of}
use Rattle.calls.specs.Afresh.{count, ratings}
use Rattle.calls.specs.Conditions.{Lengths, scratch_short, sum_conditions, sum_verdict, asked_conditions, figure_conditions, figure_verdict, opening}
use Rattle.calls.proofs.Refusals.{opening_met, sum_accepted, sum_passed, long, figure_refused, figure_passed}
use Rattle.calls_figures.specs.Answers.{Sums}
use Rattle.pack_order.specs.Listing.{most_charts, Inside, is_inside, chart_at}
use Rattle.pack_order.proofs.Lies.{is_inside_lem}
use Rattle.pack.specs.Pack.{chart_verdict, listed_verdict, rank_verdict, chart_check, listed_check}

-- ---- A list of conditions

pub one : (v : Verdict) → first_of (v ∷ []) ≡ v
unfolding first_of
one (Ok tt) = refl
one (Err q) = refl

pub passes : (v : Verdict) (vs : List Verdict) → v ≡ Ok tt → first_of (v ∷ vs) ≡ first_of vs
unfolding first_of
passes v vs e = ap (λ (w : Verdict). first_of (w ∷ vs)) e

pub stops : (v : Verdict) (vs : List Verdict) {q : Refusal} → v ≡ Err q → first_of (v ∷ vs) ≡ Err q
unfolding first_of
stops v vs e = ap (λ (w : Verdict). first_of (w ∷ vs)) e

-- ---- A chart

module _ (asked : Asked) (r v : ℕ) (l : Lengths) where
  -- ratings try the same, once the chart opens
  rated : (b : List ℕ) → opening r v b ≡ Ok tt
      → figure_verdict (ratings asked) b (value_entries v) (scratch_short l) ≡ first_of (refuse_if (scratch_short l) Table ∷ refuse_if (not (finite_asked asked)) NotFinite ∷ [])
  unfolding asked_conditions first_of
  rated b e = go (scratch_short l) (sum_passed b (value_entries v) (scratch_short l) opens_so)
    where
      opens_so : open_verdict b (value_entries v) ≡ Ok tt
      opens_so = let (o, room) = opening_met r v b e in opens_with b (value_entries v) o (omega (arith, room.values))

      go : (short : Bool) → sum_verdict b (value_entries v) short ≡ refuse_if short Table
          → figure_verdict (ratings asked) b (value_entries v) short ≡ first_of (refuse_if short Table ∷ refuse_if (not (finite_asked asked)) NotFinite ∷ [])
      go true s = figure_refused b (value_entries v) true (ratings asked) Table s
      go false s = figure_passed b (value_entries v) false (ratings asked) s

  pub chart_check_lem : (b : List ℕ) → chart_check (entries_of r v) (scratch_short l) (finite_asked asked) b ≡ chart_verdict asked r v l b
  unfolding chart_check chart_verdict
  chart_check_lem b = go (opening r v b) refl
    where
      go : (o : Verdict) → opening r v b ≡ o
          → first_of (opening r v b ∷ refuse_if (scratch_short l) Table ∷ refuse_if (not (finite_asked asked)) NotFinite ∷ [])
          ≡ first_of (opening r v b ∷ figure_verdict (ratings asked) b (value_entries v) (scratch_short l) ∷ [])
      go (Ok tt) e = passes _ _ e ∙ sym (passes _ _ e ∙ one _ ∙ rated b e)
      go (Err q) e = stops _ _ e ∙ sym (stops _ _ e)

  pub listed_check_lem : (pack : List ℕ) (o : ℕ) → listed_check (entries_of r v) (scratch_short l) (finite_asked asked) pack o ≡ listed_verdict asked r v l pack o
  unfolding listed_check listed_verdict
  listed_check_lem pack o = ap (λ (w : Verdict). first_of (refuse_if (not (is_inside pack o)) Header ∷ w ∷ [])) (chart_check_lem (chart_at pack o))

  pub checks : (pack list : List ℕ) → map (listed_check (entries_of r v) (scratch_short l) (finite_asked asked) pack) list ≡ map (listed_verdict asked r v l pack) list
  checks pack [] = refl
  checks pack (o ∷ os) = λ i. listed_check_lem pack o i ∷ checks pack os i

  -- a chart that would open and be rated
  pub record Rateable (b : List ℕ) : Type 0 where
    pub opens : opening r v b ≡ Ok tt
    pub sums : Sums b v l
    pub finite : first_of (asked_conditions (ratings asked) (count b)) ≡ Ok tt

  -- what its totals ask
  summed : (b : List ℕ) → sum_verdict b (value_entries v) (scratch_short l) ≡ Ok tt → Sums b v l
  summed b e =
      let (o, rows, short) = sum_accepted l v b e in
      let h = header_ok_lem b o in
      let s = long l short in
      record { long = (parts b h).long; holds = holds b h; rows = rows; aim = s.0; aim_no_sliders = s.1; speed = s.2; flashlight = s.3 }

  pub rateable : (b : List ℕ) → chart_verdict asked r v l b ≡ Ok tt → Rateable b
  unfolding chart_verdict figure_conditions
  rateable b e =
      let f = head_accepts _ _ (tail_accepts _ _ e) in
      let s = first_accepts (sum_conditions b (value_entries v) (scratch_short l)) (asked_conditions (ratings asked) (count b)) f in
      record {
        opens = head_accepts _ _ e;
        sums = summed b s;
        finite = sym (figure_passed b (value_entries v) (scratch_short l) (ratings asked) s) ∙ f;
      }

  -- that lies in the pack
  pub lies : (pack : List ℕ) (o : ℕ) → listed_verdict asked r v l pack o ≡ Ok tt → Inside pack o × (chart_verdict asked r v l (chart_at pack o) ≡ Ok tt)
  unfolding listed_verdict
  lies pack o e = (is_inside_lem pack o (is_met (is_inside pack o) Header (head_accepts _ _ e)), head_accepts _ _ (tail_accepts _ _ e))

-- ---- A chart, as the code tries it

module _ (entries : ℕ) (short finite : Bool) (b : List ℕ) where
  by : Verdict → Bool → Bool → Verdict
  by o s f = first_of (o ∷ refuse_if s Table ∷ refuse_if (not f) NotFinite ∷ [])

  pub check_refused : {q : Refusal} → open_verdict b entries ≡ Err q → Err q ≡ chart_check entries short finite b
  unfolding chart_check by first_of
  check_refused o = sym (ap (λ (v : Verdict). by v short finite) o)

  pub check_short : open_verdict b entries ≡ Ok tt → short ≡ true → Err Table ≡ chart_check entries short finite b
  unfolding chart_check by first_of
  check_short o s = sym (ap₂ (λ (v : Verdict) (t : Bool). by v t finite) o s)

  pub check_infinite : open_verdict b entries ≡ Ok tt → short ≡ false → finite ≡ false → Err NotFinite ≡ chart_check entries short finite b
  unfolding chart_check by first_of
  check_infinite o s f = sym (λ i. by (o i) (s i) (f i))

  pub check_passed : open_verdict b entries ≡ Ok tt → short ≡ false → finite ≡ true → (Ok tt) ≡ chart_check entries short finite b
  unfolding chart_check by first_of
  check_passed o s f = sym (λ i. by (o i) (s i) (f i))

-- ---- The chart at an offset, as the code tries it

module _ (entries : ℕ) (short finite : Bool) (pack : List ℕ) (o : ℕ) where
  pub runs_past : is_inside pack o ≡ false → Err Header ≡ listed_check entries short finite pack o
  unfolding listed_check first_of
  runs_past e = sym (ap (λ (t : Bool). first_of (refuse_if (not t) Header ∷ chart_check entries short finite (chart_at pack o) ∷ [])) e)

  pub lies_there : is_inside pack o ≡ true → {v : Verdict} → v ≡ chart_check entries short finite (chart_at pack o) → v ≡ listed_check entries short finite pack o
  unfolding listed_check
  lies_there e {v} h = h ∙ sym (passes _ _ (ap (λ (t : Bool). refuse_if (not t) Header) e) ∙ one _)

-- ---- A list

module _ (f : ℕ → Verdict) where
  -- the loop: the first i pass
  pub record Passing (list : List ℕ) (n i : ℕ) : Type 0 where
    pub within : i ≤ n
    pub count : n ≡ length list
    pub rest : first_of (map f (drop i list)) ≡ first_of (map f list)

  module _ (list : List ℕ) where
    pub start : Passing list (length list) 0
    start = record { within = omega arith; count = refl; rest = refl }

    module _ {n i : ℕ} (p : Passing list n i) where
      split : i < n → first_of (f (get_or list i 0) ∷ map f (drop (suc i) list)) ≡ first_of (map f list)
      split h =
          let k : i < length list = omega (arith, p.count) in
          sym (rw (drop-cons list i 0 k)) ∙ p.rest

      pub next : i < n → f (get_or list i 0) ≡ Ok tt → Passing list n (i + 1)
      next h e = record { within = omega arith; count = p.count; rest = rw add-one (sym (passes _ _ e) ∙ split h) }

      pub found : i < n → {q : Refusal} → f (get_or list i 0) ≡ Err q → Err q ≡ first_of (map f list)
      found h e = sym (stops _ _ e) ∙ split h

      pub end : n ≤ i → (Ok tt) ≡ first_of (map f list)
      unfolding first_of
      end h =
          let k : length list ≤ i = omega (arith, p.count) in
          let d : drop i list ≡ [] = drop_of_length-le list k in
          sym (rw d) ∙ p.rest

  pub each : (list : List ℕ) → first_of (map f list) ≡ Ok tt → (i : ℕ) → i < length list → f (get_or list i 0) ≡ Ok tt
  each [] e i h = absurd (not-suc-le-zero h)
  each (o ∷ os) e zero h = head_accepts _ _ e
  each (o ∷ os) e (suc i) h = each os (tail_accepts _ _ e) i (le_of_suc-le-suc h)

-- ---- A ranking

module _ (asked : Asked) (r v : ℕ) (l : Lengths) (pack list : List ℕ) where
  pub too_many : most_charts < length list → Err Place ≡ rank_verdict asked r v l pack list
  unfolding rank_verdict first_of
  too_many h = sym (ap (λ (t : Bool). first_of (refuse_if t Place ∷ map (listed_verdict asked r v l pack) list)) (lt-ltb most_charts (length list) h))

  pub not_many : length list ≤ most_charts → first_of (map (listed_verdict asked r v l pack) list) ≡ rank_verdict asked r v l pack list
  unfolding rank_verdict
  not_many h = sym (passes _ _ (ap (λ (t : Bool). refuse_if t Place) (le-ltb most_charts (length list) h)))

  pub accepted : rank_verdict asked r v l pack list ≡ Ok tt → (length list ≤ most_charts) × (first_of (map (listed_verdict asked r v l pack) list) ≡ Ok tt)
  unfolding rank_verdict
  accepted e = (ltb-false most_charts (length list) (not_met (ltb most_charts (length list)) Place (head_accepts _ _ e)), tail_accepts _ _ e)
