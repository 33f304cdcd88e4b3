-- The frame of a replacement, in any state and whatever tables it borrows. Assumes nothing.
use Rattle.std.specs.Prelude.{Ok, Err}
use mathlib.Core.Path.{◌≡◌, refl, ap, ◌∙◌, subst⁻¹}
use mathlib.Core.List.{List}
use Prim.Native.Nat.{ℕ, ◌+◌, ◌-◌, ◌≤◌, ◌<◌, min, max}
use native.Mathlib.Omega.{arith}
use lib.Ieee.{Float}
use lib.ListN.{length}
use Rattle.num_tables.specs.Parts.{row}
use Rattle.chart_opening.specs.Header.{layout_of, settings_of}
use Rattle.chart_opening.specs.declared.Settings.{Settings}
use Rattle.chart_opening.specs.Verdict.{Verdict}
use Rattle.chart_replacing.specs.Replace.{put_object}
use Rattle.chart_replacing.specs.Accepted.{Taken}
use Rattle.skills.specs.Strains.{strains}
use Rattle.skills.specs.Chart.{delta_at}
use Rattle.calls.specs.Tables.{record_width, value_width, Borrowed, contents, table_after}
use Rattle.calls.specs.Afresh.{count, fresh_row, values_from, strains_from}
use Rattle.calls.specs.Conditions.{replace}
use Rattle.calls.specs.Calls.{replaced_records, replaced_values, records_start, records_made, values_start, values_made, edit_records, edit_values, State, edited, execute, verdict_in, Call, lent, state_after, perform}
use Rattle.calls.specs.Statement.{Frame}
use Rattle.calls.proofs.Refusals.{Roomy, accepted_replace}
use Rattle.calls.proofs.Replacing.{count_same, settings_same, object_same}
use Rattle.calls.proofs.Locality.{record_width_lem, value_width_lem, afresh_frame, strain_local}
use Rattle.calls.proofs.Front.{row_after_lem}
use Rattle.calls.proofs.Steps.{perform_accepted, perform_refused}

frame_refl : (k : ℕ) (st : State) → Frame k st st
frame_refl k st = record {
  records_before = λ j h. refl;
  records_after = λ j h. refl;
  values_before = λ j h. refl;
  values_after = λ j h. refl;
  strains_before = λ j h. refl;
  afresh = record {
    records_before = λ j q h. refl;
    records_after = λ j q h. refl;
    values_before = λ j p q h. refl;
    values_after = λ j p q h. refl;
    strains_before = λ j h. refl;
  };
}

-- an accepted replacement, by what it borrows
module _ (k : ℕ) (o : List ℕ) (t u : Borrowed) (st : State) (a : Taken st.chart k o)
    (r : Roomy (length (contents t st.records)) (length (contents u st.values)) (count st.chart)) where
  abbrev b' : List ℕ
  b' = put_object k o st.chart

  same_n : count b' ≡ count st.chart
  same_n = count_same k o st.chart a

  abbrev rs' : List Float
  rs' = edit_records (settings_of b') b' k (replaced_records k) (contents t st.records)

  abbrev vs' : List Float
  vs' = edit_values (settings_of b') b' k (replaced_values k) rs' (contents u st.values)

  record_kept : (j : ℕ) → (k ≤ j → j ≤ k + 2 → ⊥) → row record_width (table_after t rs' st.records) j ≡ row record_width st.records j
  unfolding edit_records records_start records_made
  record_kept j d =
      row_after_lem record_width (fresh_row (settings_of b') b') (record_width_lem (settings_of b') b') (max 1 k) (min (k + 3) (count b') - max 1 k) st.records j
      (λ x y. d (omega arith) (omega arith)) t (λ z. omega (arith, same_n, r.records))

  value_kept : (j : ℕ) → (k ≤ j + 1 → j ≤ k + 33 → ⊥) → row value_width (table_after u vs' st.values) j ≡ row value_width st.values j
  unfolding edit_values values_start values_made
  value_kept j d =
      row_after_lem value_width (values_from (settings_of b') b' rs') (value_width_lem (settings_of b') b' rs') (max 1 (k - 1)) (min (k + 34) (count b') - max 1 (k - 1)) st.values j
      (λ x y. d (omega arith) (omega arith)) u (λ z. omega (arith, same_n, r.values))

  strain_kept : (j : ℕ) → j + 1 < k
      → strains_from (settings_of b') b' (table_after u vs' st.values) j ≡ strains_from (settings_of st.chart) st.chart st.values j
  unfolding strains_from
  strain_kept j h =
      ap (λ (s : Settings). strains (delta_at b' (layout_of b') s.clock_rate) (row value_width (table_after u vs' st.values)) j) (settings_same k o st.chart a)
      ∙ strain_local (settings_of st.chart) b' st.chart (row value_width (table_after u vs' st.values)) (row value_width st.values) j
      (λ i x. object_same k o st.chart a i (λ e. omega arith))
      (λ i x y. value_kept i (λ c d. omega arith))

  edited_frame : let c : Call = record { operation = replace k o; records = t; values = u } in Frame k st (state_after c (edited k o (lent c st)) st)
  unfolding edited lent state_after
  edited_frame =
      record {
        records_before = λ j h. record_kept j (λ x y. omega arith);
        records_after = λ j h. record_kept j (λ x y. omega arith);
        values_before = λ j h. value_kept j (λ x y. omega arith);
        values_after = λ j h. value_kept j (λ x y. omega arith);
        strains_before = strain_kept;
        afresh = afresh_frame k o st.chart a;
      }

-- a replacement at place k, accepted or refused
pub frame : (k : ℕ) (o : List ℕ) (t u : Borrowed) (st : State) → Frame k st (perform (record { operation = replace k o; records = t; values = u }) st).1
unfolding verdict_in lent execute
frame k o t u st = go (verdict_in (replace k o) (lent c st)) refl
  where
    c : Call
    c = record { operation = replace k o; records = t; values = u }

    go : (v : Verdict) → verdict_in (replace k o) (lent c st) ≡ v → Frame k st (perform c st).1
    go (Ok tt) e =
        let (a, r) = accepted_replace k o (length (contents t st.records)) (length (contents u st.values)) st.chart e in
        subst⁻¹ (Frame k st) (ap (λ x. x.1) (perform_accepted c st e)) (edited_frame k o t u st a r)
    go (Err q) e = subst⁻¹ (Frame k st) (ap (λ x. x.1) (perform_refused c st q e)) (frame_refl k st)
