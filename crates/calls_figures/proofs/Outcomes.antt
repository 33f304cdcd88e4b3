-- A figure for the second player, by the condition that it meets: refused it changes nothing, carried out it leaves the scratch cleared; and the first player's
-- figure, which is the second's under the header's own settings. Assumes nothing.
use Rattle.std.specs.Prelude.{Ok, Err}
use Prim.Native.Nat.{ℕ, ◌+◌, ◌≤◌, ◌<◌}
use mathlib.Core.Path.{◌≡◌, refl, sym, ap, ◌∙◌}
use mathlib.Core.Bool.{Bool, true, false}
use mathlib.Core.List.{List, [], ◌∷◌}
use native.Mathlib.Omega.{arith}
use borrow.Author.Tests.{lt-ltb, le-ltb}
use lib.Ieee.{Float}
use lib.ListN.{length}
use Rattle.num_tables.specs.Parts.{part, row, fill}
use Rattle.chart_fields.specs.Limits.{header_size}
use Rattle.chart_opening.specs.Limits.{settings_start, settings_size}
use Rattle.chart_opening.specs.Header.{settings_at, settings_of}
use Rattle.chart_opening.specs.Conditions.{refuse_if, first_of, open_verdict}
use Rattle.chart_opening.specs.declared.Settings.{Settings}
use Rattle.chart_opening.specs.declared.Refusal.{Refusal}
use Rattle.chart_opening.specs.declared.Refusal.TheVariants.{Header, Table, Place, NotFinite}
use Rattle.chart_opening.specs.Verdict.{Verdict}
use Rattle.chart_opening.proofs.Header.{framed, holds_framed}
use Rattle.chart_opening.proofs.Body.{last}
use Rattle.chart_players.specs.Second.{under, second_verdict}
use Rattle.chart_players.specs.Under.{framed_under}
use Rattle.chart_players.proofs.Verdicts.{first_append, refused_first, accepted_first, second_then, second_accepted, settings_are}
use Rattle.skills_playing.specs.Playing.{total_row}
use Rattle.skills_stars.specs.Stars.{finite_asked}
use Rattle.skills_stars.specs.declared.Asked.{Asked}
use Rattle.calls.specs.Tables.{value_width, totals_width, value_entries}
use Rattle.calls.specs.Afresh.{Figure, Amount, totals_to, playing, ratings, count, reached_of, figure_of, figure_from}
use Rattle.calls.specs.Conditions.{Scratch, Lengths, lengths, scratch_short, figure, sum_conditions, sum_verdict, asked_conditions, figure_conditions, refusal}
use Rattle.calls.specs.Calls.{Outcome, refused, figure_is, state, outcome_with, refuse, execute, verdict_in, outcome, cleared, scratch_after, amount_list, list_after}
use Rattle.calls.proofs.Refusals.{sum_accepted, sum_refused, sum_passed, long}
use Rattle.calls.proofs.Playing.{put_totals_lem}
use Rattle.calls_players.specs.Second.{seen, verdict_as, outcome_as, scratch_after_as}
use Rattle.calls_players.specs.Same.{count_under, figure_under}
use Rattle.calls_players.specs.Statement.{Reads}
use Rattle.calls_players.proofs.Own.{outcome_short, scratch_short_lem, as_refused, as_carried, scratch_kept_as, scratch_cleared_as, own_outcome, own_scratch}
use Rattle.calls_figures.specs.Answers.{Sums, lent_verdict}

-- a condition, and others behind it
then_refused : {v : Verdict} (vs : List Verdict) (r : Refusal) → v ≡ Err r → first_of (v ∷ vs) ≡ Err r
then_refused vs r e = ap (λ (w : Verdict). first_of (w ∷ vs)) e ∙ refused_first r vs

then_passed : {v : Verdict} (vs : List Verdict) → v ≡ Ok tt → first_of (v ∷ vs) ≡ first_of vs
then_passed vs e = ap (λ (w : Verdict). first_of (w ∷ vs)) e ∙ accepted_first vs

-- ---- Conditions 1 to 7

module _ (t b : List ℕ) (entries : ℕ) (short : Bool) where
  sum_then : sum_verdict (under t b) entries short ≡ first_of (open_verdict (under t b) entries ∷ refuse_if short Table ∷ [])
  sum_then = go (open_verdict (under t b) entries) refl
    where
      go : (v : Verdict) → open_verdict (under t b) entries ≡ v
          → sum_verdict (under t b) entries short ≡ first_of (open_verdict (under t b) entries ∷ refuse_if short Table ∷ [])
      go (Ok tt) e = sum_passed (under t b) entries short e ∙ sym (then_passed (refuse_if short Table ∷ []) e ∙ last (refuse_if short Table))
      go (Err q) e = sum_refused (under t b) entries short q e ∙ sym (then_refused (refuse_if short Table ∷ []) q e)

  second_sum : second_verdict t b (sum_verdict (under t b) entries short)
      ≡ first_of (second_verdict t b (open_verdict (under t b) entries) ∷ refuse_if short Table ∷ [])
  second_sum = ap (second_verdict t b) sum_then ∙ second_then t b _ _

  pub sums_refused : (r : Refusal) → second_verdict t b (open_verdict (under t b) entries) ≡ Err r
      → second_verdict t b (sum_verdict (under t b) entries short) ≡ Err r
  sums_refused r e = second_sum ∙ then_refused (refuse_if short Table ∷ []) r e

  pub sums_passed : second_verdict t b (open_verdict (under t b) entries) ≡ Ok tt
      → second_verdict t b (sum_verdict (under t b) entries short) ≡ refuse_if short Table
  sums_passed e = second_sum ∙ (then_passed (refuse_if short Table ∷ []) e ∙ last (refuse_if short Table))

-- where they are met by none
module _ (t b : List ℕ) (v : ℕ) (l : Lengths) (e : lent_verdict t b v l ≡ Ok tt) where
  pub sums : Sums b v l
  sums =
      let p = second_accepted t b _ e in
      let (_, rows, short) = sum_accepted l v (under t b) p.then in
      let f = framed b (framed_under t b p.header) in
      let s = long l short in
      record {
        long = f.long;
        holds = holds_framed b f;
        rows = omega (arith, rows, count_under t b);
        aim = s.0;
        aim_no_sliders = s.1;
        speed = s.2;
        flashlight = s.3;
      }

  pub sized : length t ≡ settings_size
  sized = (second_accepted t b _ e).size

-- ---- What comes with a call

pub not_finite : (a : Asked) (n : ℕ) → finite_asked a ≡ false → first_of (asked_conditions (ratings a) n) ≡ Err NotFinite
unfolding asked_conditions first_of
not_finite a n e = rw e

pub all_finite : (a : Asked) (n : ℕ) → finite_asked a ≡ true → first_of (asked_conditions (ratings a) n) ≡ Ok tt
unfolding asked_conditions first_of
all_finite a n e = rw e

pub too_many : (m n : ℕ) → n < m → first_of (asked_conditions (totals_to m) n) ≡ Err Place
unfolding asked_conditions first_of
too_many m n h = rw (lt-ltb n m h)

pub as_many : (m n : ℕ) → m ≤ n → first_of (asked_conditions (totals_to m) n) ≡ Ok tt
unfolding asked_conditions first_of
as_many m n h = rw (le-ltb n m h)

pub short_list : (e n : ℕ) → e < n + 1 → first_of (asked_conditions (playing e) n) ≡ Err Table
unfolding asked_conditions first_of
short_list e n h = rw (lt-ltb e (n + 1) h)

pub long_list : (e n : ℕ) → n + 1 ≤ e → first_of (asked_conditions (playing e) n) ≡ Ok tt
unfolding asked_conditions first_of
long_list e n h = rw (le-ltb e (n + 1) h)

-- ---- A figure

module _ (f : Figure) (t b : List ℕ) (vs : List Float) (x : Scratch) where
  abbrev tried : Verdict
  tried = lent_verdict t b (length vs) (lengths x)

  then_asked : verdict_as t (figure f (lengths x)) (state b [] vs) ≡ first_of (tried ∷ asked_conditions f (count b))
  unfolding verdict_as verdict_in refusal seen figure_conditions
  then_asked =
      ap (second_verdict t b) (first_append (sum_conditions (under t b) (value_entries (length vs)) (scratch_short (lengths x))) (asked_conditions f (count (under t b))))
      ∙ (second_then t b _ _ ∙ ap (λ (n : ℕ). first_of (tried ∷ asked_conditions f n)) (count_under t b))

  -- which condition it meets: of 1 to 7, or of what comes with the call
  pub met_by_sums : (r : Refusal) → tried ≡ Err r → verdict_as t (figure f (lengths x)) (state b [] vs) ≡ Err r
  met_by_sums r e = then_asked ∙ then_refused (asked_conditions f (count b)) r e

  pub met_as_asked : (v : Verdict) → tried ≡ Ok tt → first_of (asked_conditions f (count b)) ≡ v → verdict_as t (figure f (lengths x)) (state b [] vs) ≡ v
  met_as_asked v e a = then_asked ∙ (then_passed (asked_conditions f (count b)) e ∙ a)

  abbrev Refuses : Refusal → Type 0
  Refuses r = (outcome_as t (figure f (lengths x)) (state b [] vs) ≡ outcome_with (refused r) b [] vs) × (scratch_after_as t f (state b [] vs) x ≡ x)

  by_refusal : (r : Refusal) → verdict_as t (figure f (lengths x)) (state b [] vs) ≡ Err r → Refuses r
  unfolding refuse
  by_refusal r e = (as_refused t (figure f (lengths x)) (state b [] vs) r e, scratch_kept_as t f (state b [] vs) x r e)

  pub refused_by_sums : (r : Refusal) → tried ≡ Err r → Refuses r
  refused_by_sums r e = by_refusal r (met_by_sums r e)

  pub refused_as_asked : (r : Refusal) → tried ≡ Ok tt → first_of (asked_conditions f (count b)) ≡ Err r → Refuses r
  refused_as_asked r e a = by_refusal r (met_as_asked (Err r) e a)

  -- what it comes to, under the settings that come with the call
  amount : tried ≡ Ok tt → figure_from f (settings_of (under t b)) (under t b) vs ≡ figure_from f (settings_at t 0) b vs
  amount e =
      let p = second_accepted t b _ e in
      ap (λ (s : Settings). figure_from f s (under t b) vs) (settings_are t b p.header p.size) ∙ figure_under t b (settings_at t 0) f vs

  pub worked_out : tried ≡ Ok tt → first_of (asked_conditions f (count b)) ≡ Ok tt
      → (outcome_as t (figure f (lengths x)) (state b [] vs) ≡ outcome_with (figure_is (figure_from f (settings_at t 0) b vs)) b [] vs)
      × (scratch_after_as t f (state b [] vs) x ≡ cleared x)
  unfolding execute seen
  worked_out e a =
      let v = met_as_asked (Ok tt) e a in
      (as_carried t (figure f (lengths x)) (state b [] vs) v ∙ ap (λ (y : Amount). outcome_with (figure_is y) b [] vs) (amount e), scratch_cleared_as t f (state b [] vs) x v)

-- the list of the totals while playing
module _ (t b : List ℕ) (vs : List Float) (entries : ℕ) (list : List Float) where
  abbrev row_at : ℕ → List Float
  row_at m = total_row (reached_of m (settings_at t 0) b (row value_width vs))

  pub filled : (o : Outcome) → o ≡ outcome_with (figure_is (figure_from (playing entries) (settings_at t 0) b vs)) b [] vs
      → list_after o.answer list ≡ fill totals_width row_at 0 (count b + 1) list
  unfolding figure_of list_after amount_list
  filled o e =
      ap (λ (y : Outcome). list_after y.answer list) e ∙ put_totals_lem (λ m. reached_of m (settings_at t 0) b (row value_width vs)) 0 (count b + 1) list

-- ---- The first player's figure

module _ (f : Figure) (b : List ℕ) (vs : List Float) (x : Scratch) where
  -- a chart without a header
  pub short_chart : length b < header_size
      → (outcome (figure f (lengths x)) (state b [] vs) ≡ outcome_with (refused Header) b [] vs) × (scratch_after f (state b [] vs) x ≡ x)
  unfolding refuse
  short_chart h = (outcome_short (figure f (lengths x)) (state b [] vs) h, scratch_short_lem f (state b [] vs) x h)

  -- the header's settings
  pub own_figure : (t : List ℕ) → (header_size ≤ length b) × (t ≡ part settings_start settings_size b)
      → (outcome_as t (figure f (lengths x)) (state b [] vs) ≡ outcome (figure f (lengths x)) (state b [] vs))
      × (scratch_after_as t f (state b [] vs) x ≡ scratch_after f (state b [] vs) x)
  unfolding Reads
  own_figure t (h, e) = (
    ap (λ (u : List ℕ). outcome_as u (figure f (lengths x)) (state b [] vs)) e ∙ own_outcome (state b [] vs) h (figure f (lengths x)) tt,
    ap (λ (u : List ℕ). scratch_after_as u f (state b [] vs) x) e ∙ own_scratch (state b [] vs) h f x,
  )
