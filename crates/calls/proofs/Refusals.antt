-- What follows where a call meets no condition. Assumes nothing.
use Rattle.std.specs.Prelude.{Ok, Err}
use mathlib.Core.Path.{◌≡◌, refl, sym, ap, ◌∙◌}
use mathlib.Core.Logic.{◌↔◌}
use mathlib.Core.List.{List, [], ◌∷◌, ◌++◌, append_assoc}
use mathlib.Core.Bool.{Bool, true, false, ◌&&◌}
use mathlib.Mathlib.Data.Bool.Basic.{or-eq-false-eq-eq-false-and-eq-false as neither}
use Prim.Native.Nat.{ℕ, suc, ◌*◌, ◌/◌, ◌≤◌, ◌<◌}
use native.Mathlib.Omega.{arith}
use lib.Dec.{ltb}
use borrow.Author.Tests.{ltb-true, ltb-false, le-ltb}
use Rattle.chart_opening.specs.Header.{layout_of, header_ok}
use Rattle.chart_opening.specs.Conditions.{Opens, refuse_if, first_of, chart_conditions, too_few, open_conditions, open_verdict}
use Rattle.chart_opening.specs.Accepted.{opens, enough, opens_with, is_met, not_met, head_accepts, tail_accepts, first_accepts, then_accepts, first_refused, first_passed}
use Rattle.chart_opening.specs.declared.Refusal.{Refusal}
use Rattle.chart_opening.specs.declared.Refusal.TheVariants.{Header, Table, Place}
use Rattle.chart_opening.specs.Verdict.{Verdict}
use Rattle.chart_opening.proofs.Header.{both}
use Rattle.chart_replacing.specs.Accepted.{Taken}
use Rattle.chart_replacing.proofs.Accepted.{taken, room}
use Rattle.chart_inserting.specs.Accepted.{Inserted, Removed}
use Rattle.chart_inserting.proofs.Accepted.{inserted, insert_entries, removed, remove_entries}
use Rattle.calls.specs.Tables.{record_width, value_width, least_scratch, entries_of}
use Rattle.calls.specs.Afresh.{Detail, Figure, count}
use Rattle.calls.specs.Conditions.{Lengths, replace, insert, remove, read_record, read_values, read_detail, figure, scratch_short, row_conditions, read_conditions, read_verdict, sum_conditions, sum_verdict, asked_conditions, figure_conditions, figure_verdict, opening, refusal}

-- room in both tables
pub record Roomy (r v n : ℕ) : Type 0 where
  pub records : record_width * n ≤ r
  pub values : value_width * n ≤ v

roomy : (r v n : ℕ) → n ≤ entries_of r v → Roomy r v n
roomy r v n h = record { records = omega arith; values = omega arith }

pub opening_met : (r v : ℕ) (b : List ℕ) → opening r v b ≡ Ok tt → Opens b × Roomy r v (count b)
opening_met r v b e = (opens b (entries_of r v) e, roomy r v (count b) (enough b (entries_of r v) e))

pub opening_none : (r v : ℕ) (b : List ℕ) → Opens b → record_width * count b ≤ r → value_width * count b ≤ v → opening r v b ≡ Ok tt
opening_none r v b o x y = opens_with b (entries_of r v) o (omega arith)

pub accepted_replace : (k : ℕ) (o : List ℕ) (r v : ℕ) (b : List ℕ) → refusal (replace k o) r v b ≡ Ok tt → Taken b k o × Roomy r v (count b)
unfolding refusal
accepted_replace k o r v b e = (taken b k o (entries_of r v) e, roomy r v (count b) (room b k o (entries_of r v) e))

pub accepted_insert : (k : ℕ) (o : List ℕ) (r v : ℕ) (b : List ℕ) → refusal (insert k o) r v b ≡ Ok tt → Inserted b k o × Roomy r v (suc (count b))
unfolding refusal
accepted_insert k o r v b e = (inserted b k o (entries_of r v) e, roomy r v (suc (count b)) (omega (arith, insert_entries b k o (entries_of r v) e)))

pub accepted_remove : (k r v : ℕ) (b : List ℕ) → refusal (remove k) r v b ≡ Ok tt → Removed b k × Roomy r v (count b)
unfolding refusal
accepted_remove k r v b e = (removed b k (entries_of r v) e, roomy r v (count b) (remove_entries b k (entries_of r v) e))

-- a reading: its place lies in the chart, and in the table
pub record Read (b : List ℕ) (entries k : ℕ) : Type 0 where
  pub header : header_ok b ≡ true
  pub room : count b ≤ entries
  pub one : 1 ≤ k
  pub below : k < count b

pub accepted_read : (b : List ℕ) (entries k : ℕ) → read_verdict b entries k ≡ Ok tt → Read b entries k
unfolding read_conditions row_conditions
accepted_read b entries k e =
    let t = both (ltb 0 k) (ltb k (layout_of b).n) (is_met (ltb 0 k && ltb k (layout_of b).n) Place (head_accepts _ _ (tail_accepts _ _ (tail_accepts _ _ e)))) in
    record {
      header = is_met (header_ok b) Header (head_accepts _ _ e);
      room = ltb-false entries (layout_of b).n (not_met _ Table (head_accepts _ _ (tail_accepts _ _ e)));
      one = ltb-true 0 k t.0;
      below = ltb-true k (layout_of b).n t.1;
    }

pub accepted_record : (k r v : ℕ) (b : List ℕ) → refusal (read_record k) r v b ≡ Ok tt → Read b (r / record_width) k
unfolding refusal
accepted_record k r v b e = accepted_read b (r / record_width) k e

pub accepted_detail : (d : Detail) (k r v : ℕ) (b : List ℕ) → refusal (read_detail d k) r v b ≡ Ok tt → Read b (r / record_width) k
unfolding refusal
accepted_detail d k r v b e = accepted_read b (r / record_width) k e

pub accepted_values : (k r v : ℕ) (b : List ℕ) → refusal (read_values k) r v b ≡ Ok tt → Read b (v / value_width) k
unfolding refusal
accepted_values k r v b e = accepted_read b (v / value_width) k e

-- the conditions of sums are opening's, and then scratch
sum_list : (b : List ℕ) (entries : ℕ) (short : Bool) → sum_conditions b entries short ≡ open_conditions b entries ++ (refuse_if short Table ∷ [])
unfolding sum_conditions open_conditions
sum_list b entries short = sym (append_assoc (chart_conditions b) (too_few entries (count b) ∷ []) (refuse_if short Table ∷ []))

module _ (b : List ℕ) (entries : ℕ) (short : Bool) where
  pub sum_refused : (q : Refusal) → open_verdict b entries ≡ Err q → sum_verdict b entries short ≡ Err q
  sum_refused q e = ap first_of (sum_list b entries short) ∙ first_refused (open_conditions b entries) _ q e

  pub sum_passed : open_verdict b entries ≡ Ok tt → sum_verdict b entries short ≡ refuse_if short Table
  unfolding first_of
  sum_passed e = ap first_of (sum_list b entries short) ∙ (first_passed (open_conditions b entries) _ e ∙ last short)
    where
      last : (t : Bool) → first_of (refuse_if t Table ∷ []) ≡ refuse_if t Table
      last true = refl
      last false = refl

  -- a figure answers what the sums do, and then tries what comes with it
  pub figure_refused : (f : Figure) (q : Refusal) → sum_verdict b entries short ≡ Err q → figure_verdict f b entries short ≡ Err q
  unfolding figure_conditions
  figure_refused f q e = first_refused (sum_conditions b entries short) _ q e

  pub figure_passed : (f : Figure) → sum_verdict b entries short ≡ Ok tt → figure_verdict f b entries short ≡ first_of (asked_conditions f (count b))
  unfolding figure_conditions
  figure_passed f e = first_passed (sum_conditions b entries short) (asked_conditions f (count b)) e

-- each skill has 8,192 numbers of scratch
abbrev pub Enough : Lengths → Type 0
Enough l = (least_scratch ≤ l.aim) × (least_scratch ≤ l.aim_no_sliders) × (least_scratch ≤ l.speed) × (least_scratch ≤ l.flashlight)

pub long : (l : Lengths) → scratch_short l ≡ false → Enough l
unfolding scratch_short
long l e =
    let (x, t) = (neither (ltb l.aim least_scratch) _).0 e in
    let (y, u) = (neither (ltb l.aim_no_sliders least_scratch) _).0 t in
    let (z, w) = (neither (ltb l.speed least_scratch) (ltb l.flashlight least_scratch)).0 u in
    (ltb-false _ _ x, ltb-false _ _ y, ltb-false _ _ z, ltb-false _ _ w)

-- sums are worked out exactly where the chart opens, the values have room and no scratch is short
module _ (l : Lengths) (v : ℕ) (b : List ℕ) where
  behind : List Verdict
  behind = too_few (v / value_width) (count b) ∷ refuse_if (scratch_short l) Table ∷ []

  pub sum_accepted : sum_verdict b (v / value_width) (scratch_short l) ≡ Ok tt → Opens b × (value_width * count b ≤ v) × (scratch_short l ≡ false)
  unfolding sum_conditions behind
  sum_accepted e =
      let t = then_accepts (chart_conditions b) behind e in
      let h : count b ≤ v / value_width = ltb-false (v / value_width) (count b) (not_met (ltb (v / value_width) (count b)) Table (head_accepts _ _ t)) in
      (first_accepts (chart_conditions b) behind e, omega arith, not_met (scratch_short l) Table (head_accepts _ _ (tail_accepts _ _ t)))

  sum_back : Opens b → value_width * count b ≤ v → scratch_short l ≡ false → sum_verdict b (v / value_width) (scratch_short l) ≡ Ok tt
  unfolding sum_conditions first_of behind
  sum_back o h w =
      let t : count b ≤ v / value_width = omega arith in
      first_passed (chart_conditions b) behind o ∙ rw (le-ltb (v / value_width) (count b) t, w)

-- a figure, where what comes with it passes too
module _ (f : Figure) (l : Lengths) (r v : ℕ) (b : List ℕ) where
  there : refusal (figure f l) r v b ≡ Ok tt → Opens b × (value_width * count b ≤ v) × (scratch_short l ≡ false) × (first_of (asked_conditions f (count b)) ≡ Ok tt)
  unfolding refusal figure_conditions
  there e =
      let s = first_accepts (sum_conditions b (v / value_width) (scratch_short l)) (asked_conditions f (count b)) e in
      let (o, h, w) = sum_accepted l v b s in
      (o, h, w, then_accepts (sum_conditions b (v / value_width) (scratch_short l)) (asked_conditions f (count b)) e)

  back : Opens b × (value_width * count b ≤ v) × (scratch_short l ≡ false) × (first_of (asked_conditions f (count b)) ≡ Ok tt) → refusal (figure f l) r v b ≡ Ok tt
  unfolding refusal
  back (o, h, w, a) = figure_passed b (v / value_width) (scratch_short l) f (sum_back l v b o h w) ∙ a

  pub figure_accepted : (refusal (figure f l) r v b ≡ Ok tt)
      ↔ (Opens b × (value_width * count b ≤ v) × (scratch_short l ≡ false) × (first_of (asked_conditions f (count b)) ≡ Ok tt))
  figure_accepted = (there, back)
