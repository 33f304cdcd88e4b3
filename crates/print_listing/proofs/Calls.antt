-- What the calls answer on a chart within the limit: opening as conditions 1 to 6 say, readings, totals and counts what the filled table holds.
-- Assumes nothing.
use Rattle.std.specs.Prelude.{Result, Ok, Err}
use Prim.Native.Nat.{ℕ, ◌*◌, ◌/◌, ◌≤◌, ◌<◌}
use native.Mathlib.Nat.{mul-le-mul, le_refl}
use native.Mathlib.Omega.{arith}
use mathlib.Core.Path.{◌≡◌, refl, sym, ap, ◌∙◌, subst}
use mathlib.Core.Bool.{false}
use mathlib.Core.List.{List, []}
use borrow.Author.Tests.{lt-ltb, le-ltb}
use lib.Ieee.{Float}
use lib.ListN.{length}
use Rattle.num_tables.specs.Parts.{row}
use Rattle.chart_opening.specs.Header.{layout_of, settings_of}
use Rattle.chart_opening.specs.Conditions.{refusal_number, refusal_place, first_of, if_accepted, chart_conditions, Opens, open_conditions}
use Rattle.chart_opening.specs.Accepted.{first_refused, header_ok_lem}
use Rattle.chart_opening.specs.declared.Refusal.{Refusal}
use Rattle.chart_opening.specs.Verdict.{Verdict}
use Rattle.chart_opening.proofs.Header.{holds}
use Rattle.eval_values.specs.declared.Values.{Values}
use Rattle.eval_values.specs.Values.{row_of}
use Rattle.skills.specs.declared.Skills.{Skills}
use Rattle.skills_counts.specs.declared.ObjectCounts.{ObjectCounts}
use Rattle.calls.specs.Tables.{record_width, value_width}
use Rattle.calls.specs.Afresh.{Figure, totals, counts, totals_are, counts_are, figure_of, fresh_figure}
use Rattle.calls.specs.Conditions.{Scratch, lengths, scratch_short, read_values, figure, row_conditions, read_conditions, asked_conditions, opening, refusal}
use Rattle.calls.specs.Calls.{refused, values_are, figure_is, State, state, opened, open_answer, open_leaves, execute, verdict_in, outcome}
use Rattle.calls.proofs.Refusals.{opening_none, figure_accepted}
use Rattle.calls.proofs.Locality.{open_fresh, open_values_length, figure_local}
use Rattle.calls.proofs.Alone.{carried_out}
use Rattle.calls_readings.specs.Answers.{values_answer}
use Rattle.print_lines.specs.Lines.{refusal_text}
use Rattle.print_listing.specs.List.{limit, most_listed, met_text, values_afresh, totals_afresh, counts_afresh, afresh_text, chart_text, Filled, Tables, ScratchRoom}

-- ---- Opening

pub few_objects : (b : List ℕ) → Opens b → length b ≤ limit → (layout_of b).n ≤ most_listed
few_objects b o h =
    let k = holds b (header_ok_lem b o) in
    omega (arith, mul-le-mul k.size_least (le_refl (layout_of b).n), k.objects, k.nested_in_lem, k.points_in)

module _ (b : List ℕ) (rs vs : List Float) (within : length b ≤ limit) (room : Tables (length rs) (length vs)) where
  -- so condition 7 is never met
  opening_is : open_answer (state b rs vs) ≡ first_of (chart_conditions b)
  unfolding open_answer open_conditions
  opening_is = go (first_of (chart_conditions b)) refl
    where
      go : (q : Verdict) → first_of (chart_conditions b) ≡ q → opening (length rs) (length vs) b ≡ q
      go (Ok tt) e =
          let n = few_objects b e within in
          opening_none (length rs) (length vs) b e (omega (arith, room.records_room)) (omega (arith, room.values_room))
      go (Err x) e = first_refused (chart_conditions b) _ x e

  text_by : Verdict → List ℕ
  text_by q = if_accepted q (afresh_text b) met_text

  pub refused_text : (x : Refusal) (a : Verdict) → a ≡ Err x → a ≡ open_answer (state b rs vs) → refusal_text (refusal_number x) (refusal_place x) ≡ chart_text b
  unfolding chart_text met_text if_accepted text_by
  refused_text x a g e = ap text_by (sym g ∙ (e ∙ opening_is))

  module _ (a : Verdict) (g : a ≡ Ok tt) (e : a ≡ open_answer (state b rs vs)) where
    opens : Opens b
    opens = sym (sym g ∙ (e ∙ opening_is))

    pub accepted_text : afresh_text b ≡ chart_text b
    unfolding chart_text if_accepted text_by
    accepted_text = ap text_by (sym opens)

    records_fit : record_width * (layout_of b).n ≤ length rs
    records_fit = let n = few_objects b opens within in omega (arith, room.records_room)

    values_fit : value_width * (layout_of b).n ≤ length vs
    values_fit = let n = few_objects b opens within in omega (arith, room.values_room)

    left : open_leaves (state b rs vs) ≡ opened (state b rs vs)
    unfolding open_leaves if_accepted
    left = ap (λ (q : Verdict). if_accepted q (opened (state b rs vs)) (λ x. state b rs vs)) (opening_is ∙ opens)

    filled : Filled b (opened (state b rs vs)).values
    unfolding opened
    filled =
        let f = open_fresh (settings_of b) b rs vs records_fit values_fit in
        record {
          opens = opens;
          rows = rw (open_values_length (settings_of b) b rs vs records_fit values_fit) values_fit;
          values = f.values;
        }

    pub accepted_filled : (y : State) → y ≡ open_leaves (state b rs vs) → Filled b y.values
    accepted_filled y q = subst (λ (t : State). Filled b t.values) (sym (q ∙ left)) filled

-- ---- Readings, totals and counts

module _ (b : List ℕ) (vs : List Float) (f : Filled b vs) where
  pub has_header : 80 ≤ length b
  has_header = let k = holds b (header_ok_lem b f.opens) in omega (arith, k.objects, k.nested_in_lem, k.points_in)

  module _ (j : ℕ) (one : 1 ≤ j) (below : j < (layout_of b).n) where
    not_refused : verdict_in (read_values j) (state b [] vs) ≡ Ok tt
    unfolding verdict_in refusal read_conditions row_conditions first_of
    not_refused =
        let h : (layout_of b).n ≤ length vs / value_width = omega (arith, f.rows) in
        simp (header_ok_lem b f.opens, le-ltb (length vs / value_width) (layout_of b).n h, lt-ltb 0 j one, lt-ltb j (layout_of b).n below)

    reading : (outcome (read_values j) (state b [] vs)).answer ≡ values_are (row value_width vs j)
    unfolding execute
    reading = ap (λ x. x.answer) (carried_out (read_values j) (state b [] vs) not_refused)

    pub read_row : (v : Values) (a : Result Values Refusal) → a ≡ Ok v → values_answer a ≡ (outcome (read_values j) (state b [] vs)).answer
        → row_of v ≡ row value_width vs j
    read_row v a g e = let q : values_are (row_of v) ≡ values_are (row value_width vs j) = ap values_answer (sym g) ∙ (e ∙ reading) in cc

    pub read_carried_out : (x : Refusal) (a : Result Values Refusal) → a ≡ Err x → values_answer a ≡ (outcome (read_values j) (state b [] vs)).answer → ⊥
    read_carried_out x a g e =
        let q : refused x ≡ values_are (row value_width vs j) = ap values_answer (sym g) ∙ (e ∙ reading) in
        let z : ◌≡◌ {A = ℕ} 0 1 = cc in
        omega arith

  module _ (x : Scratch) (room : ScratchRoom (length x.aim) (length x.aim_no_sliders) (length x.speed) (length x.flashlight)) where
    long : scratch_short (lengths x) ≡ false
    unfolding scratch_short
    long =
        rw (le-ltb (length x.aim) 8192 room.aim_room, le-ltb (length x.aim_no_sliders) 8192 room.no_sliders_room, le-ltb (length x.speed) 8192 room.speed_room, le-ltb (length x.flashlight) 8192 room.flashlight_room)

    -- a figure whose own conditions pass is not refused, and is the one worked out afresh
    worked_out : (g : Figure) → first_of (asked_conditions g (layout_of b).n) ≡ Ok tt
        → (outcome (figure g (lengths x)) (state b [] vs)).answer ≡ figure_is (fresh_figure g (settings_of b) b)
    unfolding verdict_in execute
    worked_out g passes =
        ap (λ y. y.answer) (carried_out (figure g (lengths x)) (state b [] vs) ((figure_accepted g (lengths x) 0 (length vs) b).1 (f.opens, f.rows, long, passes)))
        ∙ ap figure_is (figure_local g (settings_of b) b (row value_width vs) (values_afresh b) passes f.values)

    pub figure_carried_out : (g : Figure) → first_of (asked_conditions g (layout_of b).n) ≡ Ok tt
        → (y : Refusal) → refused y ≡ (outcome (figure g (lengths x)) (state b [] vs)).answer → ⊥
    figure_carried_out g passes y e =
        let q : refused y ≡ figure_is (fresh_figure g (settings_of b) b) = e ∙ worked_out g passes in
        let z : ◌≡◌ {A = ℕ} 0 1 = cc in
        omega arith

    pub totals_are_lem : (t : Skills) → figure_is (totals_are t) ≡ (outcome (figure totals (lengths x)) (state b [] vs)).answer → t ≡ totals_afresh b
    unfolding asked_conditions first_of figure_of
    totals_are_lem t e =
        let q : figure_is (totals_are t) ≡ figure_is (totals_are (totals_afresh b)) = e ∙ worked_out totals refl in
        let p : totals_are t ≡ totals_are (totals_afresh b) = cc in
        cc

    pub counts_are_lem : (n : ObjectCounts) → figure_is (counts_are n) ≡ (outcome (figure counts (lengths x)) (state b [] vs)).answer → n ≡ counts_afresh b
    unfolding asked_conditions first_of figure_of
    counts_are_lem n e =
        let q : figure_is (counts_are n) ≡ figure_is (counts_are (counts_afresh b)) = e ∙ worked_out counts refl in
        let p : counts_are n ≡ counts_are (counts_afresh b) = cc in
        cc
