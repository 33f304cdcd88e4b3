-- One call on an opened chart: it keeps the tables fresh, answers as the plain chart does, and writes entries 1 to N - 1 only. Assumes nothing.
use Rattle.std.specs.Prelude.{Ok, Err}
use mathlib.Core.Path.{◌≡◌, refl, sym, ap, ◌∙◌, subst, subst₂}
use mathlib.Core.List.{List, ◌++◌}
use Prim.Native.Nat.{ℕ, suc, ◌+◌, ◌-◌, ◌*◌, ◌≤◌, ◌<◌, min, max}
use native.Mathlib.Omega.{arith}
use lib.Ieee.{Float}
use lib.ListN.{length}
use Rattle.num_tables.specs.Parts.{row, fill, rows_up, rows_down}
use Rattle.num_tables.proofs.Rows.{fill-append}
use Rattle.num_tables.proofs.Moves.{length_rows_up, take_rows_up, drop_rows_up, rows_up_append, row_rows_up, row_rows_up_out, length_rows_down, take_rows_down, drop_rows_down, rows_down_append, row_rows_down, row_rows_down_out}
use Rattle.osu_records.specs.Rows.{record_at}
use Rattle.osu_records.proofs.Laws.{record_same}
use Rattle.chart_opening.specs.Header.{settings_of}
use Rattle.chart_opening.specs.Conditions.{if_accepted, Opens}
use Rattle.chart_opening.specs.declared.Settings.{Settings}
use Rattle.chart_opening.specs.declared.Refusal.{Refusal}
use Rattle.chart_opening.specs.Verdict.{Verdict}
use Rattle.chart_replacing.specs.Replace.{put_object}
use Rattle.chart_replacing.specs.Accepted.{Taken}
use Rattle.chart_inserting.specs.Insert.{insert_object, remove_object}
use Rattle.chart_inserting.specs.OneMore.{OneMore}
use Rattle.chart_inserting.specs.Accepted.{Inserted, Removed}
use Rattle.calls.specs.Tables.{record_width, value_width, Borrowed, IsOwn, contents, length_of, table_after}
use Rattle.calls.specs.Afresh.{count, fresh_row, values_from}
use Rattle.calls.specs.Conditions.{Operation, replace, insert, remove, read_record, read_values, read_detail, figure, refusal}
use Rattle.calls.specs.Calls.{replaced_records, replaced_values, inserted_records, inserted_values, removed_records, removed_values, first_moved, records_start, records_made, values_start, values_made, edit_records, edit_values, Answer, refused, record_is, values_are, detail_is, figure_is, State, state, Outcome, refuse, opened, edited, put_in, taken_out, execute, verdict_in, outcome, Call, lent, state_after, perform, question, compute, plain}
use Rattle.calls.specs.Statement.{OwnTables, Outside, Fresh, settings_in, Admissible}
use Rattle.calls.proofs.Refusals.{Roomy, accepted_replace, accepted_insert, accepted_remove, accepted_record, accepted_values, accepted_detail, figure_accepted}
use Rattle.calls.proofs.Replacing.{count_same, settings_same, object_same}
use Rattle.calls.proofs.Locality.{read_back, values_from_same, detail_local, detail_from_lem, figure_local, figure_from_lem, record_width_lem, value_width_lem, open_fresh, open_records_length, open_values_length, edit_records_length, edit_values_length, edit_record_kept, edit_value_kept, edit_record_made, edit_value_made, edit_outside, edit_fresh}
use Rattle.calls.proofs.Moving.{inserted_more, removed_more, object_before, object_later}
use Rattle.calls.proofs.Inserting.{inserted_fresh, removed_fresh}
use Rattle.calls.proofs.Front.{later_drop, fill-same, after_same, length_lent, lent_shorter, row_lent, row_left, after_whole}

-- ---- Entries that stay

pub outside_refl : (n : ℕ) (st : State) → Outside n st st
outside_refl n st = record { first_record = refl; later_records = refl; first_values = refl; later_values = refl }

pub outside_trans : {n : ℕ} {x y z : State} → Outside n x y → Outside n y z → Outside n x z
outside_trans p q = record {
  first_record = q.first_record ∙ p.first_record;
  later_records = q.later_records ∙ p.later_records;
  first_values = q.first_values ∙ p.first_values;
  later_values = q.later_values ∙ p.later_values;
}

-- what stays from m on stays from any later entry on
pub outside_later : {m : ℕ} (n : ℕ) {x y : State} → m ≤ n → Outside m x y → Outside n x y
outside_later {m} n {x} {y} h o = record {
  first_record = o.first_record;
  later_records = later_drop (record_width * m) (record_width * n) y.records x.records (omega arith) o.later_records;
  first_values = o.first_values;
  later_values = later_drop (value_width * m) (value_width * n) y.values x.values (omega arith) o.later_values;
}

-- ---- A replacement that is accepted

module _ (k : ℕ) (o : List ℕ) (st : State) (t : Taken st.chart k o) (r : Roomy (length st.records) (length st.values) (count st.chart)) where
  abbrev put_chart : List ℕ
  put_chart = put_object k o st.chart

  put_records : record_width * count put_chart ≤ length st.records
  put_records = omega (arith, count_same k o st.chart t, r.records)

  put_values : value_width * count put_chart ≤ length st.values
  put_values = omega (arith, count_same k o st.chart t, r.values)

  pub edited_lengths : (length (edited k o st).records ≡ length st.records) × (length (edited k o st).values ≡ length st.values)
  unfolding edited
  edited_lengths = (
    edit_records_length (settings_of put_chart) k (replaced_records k) (replaced_values k) put_chart st.records st.values put_records put_values,
    edit_values_length (settings_of put_chart) k (replaced_records k) (replaced_values k) put_chart st.records st.values put_records put_values,
  )

  pub edited_outside : Outside (count (edited k o st).chart) st (edited k o st)
  unfolding edited
  edited_outside = edit_outside (settings_of put_chart) k (replaced_records k) (replaced_values k) put_chart st.records st.values put_records put_values st.chart

  pub edited_fresh : Fresh (settings_in st) st → Fresh (settings_in (edited k o st)) (edited k o st)
  unfolding edited
  edited_fresh f =
      edit_fresh (settings_of put_chart) k st.chart put_chart st.records st.values put_records put_values (count_same k o st.chart t) (object_same k o st.chart t)
      (subst (λ (s : Settings). Fresh s (state st.chart st.records st.values)) (sym (settings_same k o st.chart t)) f)

-- ---- An insertion that is accepted

module _ (k : ℕ) (o : List ℕ) (st : State) (t : Inserted st.chart k o) (r : Roomy (length st.records) (length st.values) (suc (count st.chart))) where
  abbrev in_chart : List ℕ
  in_chart = insert_object k o st.chart

  more : OneMore k st.chart in_chart
  more = inserted_more st.chart k o t

  abbrev up_records : List Float
  up_records = rows_up record_width (first_moved k) (count st.chart) st.records

  abbrev up_values : List Float
  up_values = rows_up value_width (first_moved k) (count st.chart) st.values

  records_up : first_moved k < count st.chart → record_width * (count st.chart + 1) ≤ length st.records
  records_up z = omega (arith, r.records)

  values_up : first_moved k < count st.chart → value_width * (count st.chart + 1) ≤ length st.values
  values_up z = omega (arith, r.values)

  up_records_long : length up_records ≡ length st.records
  up_records_long = length_rows_up record_width (first_moved k) (count st.chart) st.records records_up

  up_values_long : length up_values ≡ length st.values
  up_values_long = length_rows_up value_width (first_moved k) (count st.chart) st.values values_up

  in_records : record_width * count in_chart ≤ length up_records
  in_records = omega (arith, more.counts, up_records_long, r.records)

  in_values : value_width * count in_chart ≤ length up_values
  in_values = omega (arith, more.counts, up_values_long, r.values)

  pub put_in_lengths : (length (put_in k o st).records ≡ length st.records) × (length (put_in k o st).values ≡ length st.values)
  unfolding put_in
  put_in_lengths = (
    edit_records_length (settings_of in_chart) k (inserted_records k) (inserted_values k) in_chart up_records up_values in_records in_values ∙ up_records_long,
    edit_values_length (settings_of in_chart) k (inserted_records k) (inserted_values k) in_chart up_records up_values in_records in_values ∙ up_values_long,
  )

  pub put_in_outside : Outside (count (put_in k o st).chart) st (put_in k o st)
  unfolding put_in
  put_in_outside =
      outside_trans
      (record {
        first_record = take_rows_up record_width (first_moved k) (count st.chart) st.records records_up 1 (omega arith);
        later_records = drop_rows_up record_width (first_moved k) (count st.chart) st.records records_up (count in_chart) (λ z. omega (arith, more.counts));
        first_values = take_rows_up value_width (first_moved k) (count st.chart) st.values values_up 1 (omega arith);
        later_values = drop_rows_up value_width (first_moved k) (count st.chart) st.values values_up (count in_chart) (λ z. omega (arith, more.counts));
      })
      (edit_outside (settings_of in_chart) k (inserted_records k) (inserted_values k) in_chart up_records up_values in_records in_values st.chart)

  -- rows that only move
  pub put_in-record-up : (j : ℕ) → max (k + 2) 3 ≤ j → j < count st.chart → row record_width (put_in k o st).records (suc j) ≡ row record_width st.records j
  unfolding put_in
  put_in-record-up j h q =
      edit_record_kept (settings_of in_chart) k (inserted_records k) (inserted_values k) in_chart up_records up_values in_records in_values (suc j) (λ x y. omega arith)
      ∙ row_rows_up record_width (first_moved k) (count st.chart) st.records records_up j (omega arith) q

  pub put_in_value_up : (j : ℕ) → k + 33 ≤ j → j < count st.chart → row value_width (put_in k o st).values (suc j) ≡ row value_width st.values j
  unfolding put_in
  put_in_value_up j h q =
      edit_value_kept (settings_of in_chart) k (inserted_records k) (inserted_values k) in_chart up_records up_values in_records in_values (suc j) (λ x y. omega arith)
      ∙ row_rows_up value_width (first_moved k) (count st.chart) st.values values_up j (omega arith) q

  -- and rows that stay
  pub put_in-record_kept : (j : ℕ) → j < k → row record_width (put_in k o st).records j ≡ row record_width st.records j
  unfolding put_in
  put_in-record_kept j h =
      edit_record_kept (settings_of in_chart) k (inserted_records k) (inserted_values k) in_chart up_records up_values in_records in_values j (λ x y. omega arith)
      ∙ row_rows_up_out record_width (first_moved k) (count st.chart) st.records records_up j (λ x y. omega arith)

  pub put_in_value_kept : (j : ℕ) → j + 1 < k → row value_width (put_in k o st).values j ≡ row value_width st.values j
  unfolding put_in
  put_in_value_kept j h =
      edit_value_kept (settings_of in_chart) k (inserted_records k) (inserted_values k) in_chart up_records up_values in_records in_values j (λ x y. omega arith)
      ∙ row_rows_up_out value_width (first_moved k) (count st.chart) st.values values_up j (λ x y. omega arith)

  put_in-record_made : (j : ℕ) → 1 ≤ j → j < count in_chart → k ≤ j → j ≤ max (k + 2) 3 → row record_width (put_in k o st).records j ≡ fresh_row (settings_of in_chart) in_chart j
  unfolding put_in
  put_in-record_made j p q x y =
      edit_record_made (settings_of in_chart) k (inserted_records k) (inserted_values k) in_chart up_records up_values in_records in_values j p q x (omega arith)

  put_in_value_made : (j : ℕ) → 1 ≤ j → j < count in_chart → k ≤ j + 1 → j ≤ k + 33
      → row value_width (put_in k o st).values j ≡ values_from (settings_of in_chart) in_chart (put_in k o st).records j
  unfolding put_in
  put_in_value_made j p q x y =
      edit_value_made (settings_of in_chart) k (inserted_records k) (inserted_values k) in_chart up_records up_values in_records in_values j p q x (omega arith)

  put_in_state : Fresh (settings_of in_chart) (state in_chart (put_in k o st).records (put_in k o st).values) → Fresh (settings_in (put_in k o st)) (put_in k o st)
  unfolding put_in
  put_in_state g = g

  pub put_in_fresh : Fresh (settings_in st) st → Fresh (settings_in (put_in k o st)) (put_in k o st)
  put_in_fresh f =
      put_in_state
      (inserted_fresh (settings_of in_chart) k st.chart in_chart more.counts more.at
      (object_before k st.chart in_chart more t.opens) (object_later k st.chart in_chart more t.opens)
      st.records st.values (put_in k o st).records (put_in k o st).values
      (subst (λ (s : Settings). Fresh s (state st.chart st.records st.values)) (sym more.settings) f)
      (λ j p h. put_in-record_kept j h) put_in-record_made put_in-record-up
      (λ j p h. put_in_value_kept j h) put_in_value_made put_in_value_up)

-- ---- A removal that is accepted

module _ (k : ℕ) (st : State) (t : Removed st.chart k) (r : Roomy (length st.records) (length st.values) (count st.chart)) where
  abbrev out_chart : List ℕ
  out_chart = remove_object k st.chart

  fewer : OneMore k out_chart st.chart
  fewer = removed_more st.chart k t

  abbrev down_records : List Float
  down_records = rows_down record_width (first_moved k) (count st.chart) st.records

  abbrev down_values : List Float
  down_values = rows_down value_width (first_moved k) (count st.chart) st.values

  records_down : first_moved k + 1 < count st.chart → record_width * count st.chart ≤ length st.records
  records_down z = r.records

  values_down : first_moved k + 1 < count st.chart → value_width * count st.chart ≤ length st.values
  values_down z = r.values

  down_records_long : length down_records ≡ length st.records
  down_records_long = length_rows_down record_width (first_moved k) (count st.chart) st.records records_down

  down_values_long : length down_values ≡ length st.values
  down_values_long = length_rows_down value_width (first_moved k) (count st.chart) st.values values_down

  out_records : record_width * count out_chart ≤ length down_records
  out_records = omega (arith, fewer.counts, down_records_long, r.records)

  out_values : value_width * count out_chart ≤ length down_values
  out_values = omega (arith, fewer.counts, down_values_long, r.values)

  pub taken_out_lengths : (length (taken_out k st).records ≡ length st.records) × (length (taken_out k st).values ≡ length st.values)
  unfolding taken_out
  taken_out_lengths = (
    edit_records_length (settings_of out_chart) k (removed_records k) (removed_values k) out_chart down_records down_values out_records out_values ∙ down_records_long,
    edit_values_length (settings_of out_chart) k (removed_records k) (removed_values k) out_chart down_records down_values out_records out_values ∙ down_values_long,
  )

  pub taken_out_outside : Outside (count (taken_out k st).chart) st (taken_out k st)
  unfolding taken_out
  taken_out_outside =
      outside_trans
      (record {
        first_record = take_rows_down record_width (first_moved k) (count st.chart) st.records records_down 1 (omega arith);
        later_records = drop_rows_down record_width (first_moved k) (count st.chart) st.records records_down (count out_chart) (λ z. omega (arith, fewer.counts));
        first_values = take_rows_down value_width (first_moved k) (count st.chart) st.values values_down 1 (omega arith);
        later_values = drop_rows_down value_width (first_moved k) (count st.chart) st.values values_down (count out_chart) (λ z. omega (arith, fewer.counts));
      })
      (edit_outside (settings_of out_chart) k (removed_records k) (removed_values k) out_chart down_records down_values out_records out_values st.chart)

  -- rows that only move
  pub taken_out_record-down : (j : ℕ) → max (k + 2) 3 ≤ j → j < count out_chart → row record_width (taken_out k st).records j ≡ row record_width st.records (suc j)
  unfolding taken_out
  taken_out_record-down j h q =
      edit_record_kept (settings_of out_chart) k (removed_records k) (removed_values k) out_chart down_records down_values out_records out_values j (λ x y. omega arith)
      ∙ row_rows_down record_width (first_moved k) (count st.chart) st.records records_down j (omega arith) (omega (arith, fewer.counts))

  pub taken_out_value_down : (j : ℕ) → k + 33 ≤ j → j < count out_chart → row value_width (taken_out k st).values j ≡ row value_width st.values (suc j)
  unfolding taken_out
  taken_out_value_down j h q =
      edit_value_kept (settings_of out_chart) k (removed_records k) (removed_values k) out_chart down_records down_values out_records out_values j (λ x y. omega arith)
      ∙ row_rows_down value_width (first_moved k) (count st.chart) st.values values_down j (omega arith) (omega (arith, fewer.counts))

  -- and rows that stay
  pub taken_out_record_kept : (j : ℕ) → j < k → row record_width (taken_out k st).records j ≡ row record_width st.records j
  unfolding taken_out
  taken_out_record_kept j h =
      edit_record_kept (settings_of out_chart) k (removed_records k) (removed_values k) out_chart down_records down_values out_records out_values j (λ x y. omega arith)
      ∙ row_rows_down_out record_width (first_moved k) (count st.chart) st.records records_down j (λ x y. omega arith)

  pub taken_out_value_kept : (j : ℕ) → j + 1 < k → row value_width (taken_out k st).values j ≡ row value_width st.values j
  unfolding taken_out
  taken_out_value_kept j h =
      edit_value_kept (settings_of out_chart) k (removed_records k) (removed_values k) out_chart down_records down_values out_records out_values j (λ x y. omega arith)
      ∙ row_rows_down_out value_width (first_moved k) (count st.chart) st.values values_down j (λ x y. omega arith)

  taken_out_record_made : (j : ℕ) → 1 ≤ j → j < count out_chart → k ≤ j → j < max (k + 2) 3 → row record_width (taken_out k st).records j ≡ fresh_row (settings_of out_chart) out_chart j
  unfolding taken_out
  taken_out_record_made j p q x y =
      edit_record_made (settings_of out_chart) k (removed_records k) (removed_values k) out_chart down_records down_values out_records out_values j p q x y

  taken_out_value_made : (j : ℕ) → 1 ≤ j → j < count out_chart → k ≤ j + 1 → j < k + 33
      → row value_width (taken_out k st).values j ≡ values_from (settings_of out_chart) out_chart (taken_out k st).records j
  unfolding taken_out
  taken_out_value_made j p q x y =
      edit_value_made (settings_of out_chart) k (removed_records k) (removed_values k) out_chart down_records down_values out_records out_values j p q x y

  taken_out_state : Fresh (settings_of out_chart) (state out_chart (taken_out k st).records (taken_out k st).values) → Fresh (settings_in (taken_out k st)) (taken_out k st)
  unfolding taken_out
  taken_out_state g = g

  pub taken_out_fresh : Fresh (settings_in st) st → Fresh (settings_in (taken_out k st)) (taken_out k st)
  taken_out_fresh f =
      taken_out_state
      (removed_fresh (settings_of out_chart) k out_chart st.chart fewer.counts fewer.at
      (object_before k out_chart st.chart fewer t.becomes) (object_later k out_chart st.chart fewer t.becomes)
      (taken_out k st).records (taken_out k st).values st.records st.values
      (subst (λ (s : Settings). Fresh s (state st.chart st.records st.values)) fewer.settings f)
      (λ j p h. taken_out_record_kept j h) taken_out_record_made taken_out_record-down
      (λ j p h. taken_out_value_kept j h) taken_out_value_made taken_out_value_down)

-- ---- A call, by the condition that it meets

same_state : (c : Call) (st : State) → state_after c (lent c st) st ≡ st
unfolding state_after lent
same_state c st = λ i. record { chart = st.chart; records = after_same c.records st.records i; values = after_same c.values st.values i }

module _ (c : Call) (st : State) where
  result : Verdict → Answer × State
  result v =
      let x : Outcome = if_accepted v (execute c.operation (lent c st)) (refuse (lent c st)) in
      (x.answer, state_after c x.leaves st)

  pub perform_accepted : verdict_in c.operation (lent c st) ≡ Ok tt
      → perform c st ≡ ((execute c.operation (lent c st)).answer, state_after c (execute c.operation (lent c st)).leaves st)
  unfolding perform outcome result if_accepted
  perform_accepted e = ap result e

  pub perform_refused : (q : Refusal) → verdict_in c.operation (lent c st) ≡ Err q → perform c st ≡ (refused q, st)
  unfolding perform outcome result if_accepted refuse
  perform_refused q e = ap result e ∙ (λ i. (refused q, same_state c st i))

-- ---- Carried out on the opening's tables, or on the front of them: as if the whole tables were lent

front_record : (t : Borrowed) → IsOwn t → (n j : ℕ) (x : List Float) → record_width * n ≤ length (contents t x) → j < n → record_at (contents t x) j ≡ record_at x j
front_record t o n j x h q = record_same (contents t x) x j j (row_lent t o record_width j x (omega arith))

-- an edit, by what it does to the tables before rows are made anew for the chart b: g to the records and h to the values
module _ (s : Settings) (b : List ℕ) (k e f : ℕ) (t u : Borrowed) (own-t : IsOwn t) (own-u : IsOwn u) (rs vs : List Float) (g h : List Float → List Float)
    (g-append : (r : List Float) → g (contents t rs) ++ r ≡ g (contents t rs ++ r))
    (h-append : (r : List Float) → h (contents u vs) ++ r ≡ h (contents u vs ++ r))
    (g-long : length (g (contents t rs)) ≡ length (contents t rs))
    (h-long : length (h (contents u vs)) ≡ length (contents u vs))
    (records-roomy : record_width * count b ≤ length (contents t rs))
    (values-roomy : value_width * count b ≤ length (contents u vs))
  where
    abbrev lent_records : List Float
    lent_records = edit_records s b k e (g (contents t rs))

    abbrev whole_records : List Float
    whole_records = edit_records s b k e (g rs)

    records_join : table_after t lent_records rs ≡ whole_records
    unfolding edit_records records_start records_made
    records_join =
        after_whole t own-t (λ (x : List Float). fill record_width (fresh_row s b) (max 1 k) (min e (count b) - max 1 k) (g x)) rs (λ r.
        fill-append record_width (fresh_row s b) (record_width_lem s b) (max 1 k) (min e (count b) - max 1 k) (g (contents t rs)) r (λ z. omega (arith, g-long, records-roomy))
        ∙ ap (fill record_width (fresh_row s b) (max 1 k) (min e (count b) - max 1 k)) (g-append r))

    records_long : length lent_records ≡ length (contents t rs)
    records_long =
        edit_records_length s k e f b (g (contents t rs)) (h (contents u vs)) (omega (arith, g-long, records-roomy)) (omega (arith, h-long, values-roomy)) ∙ g-long

    record_joins : (i : ℕ) → i < count b → record_at lent_records i ≡ record_at whole_records i
    record_joins i l =
        record_same lent_records whole_records i i
        (sym (row_left t own-t record_width i lent_records rs (omega (arith, records_long, records-roomy))) ∙ ap (λ (x : List Float). row record_width x i) records_join)

    values_join : table_after u (edit_values s b k f lent_records (h (contents u vs))) vs ≡ edit_values s b k f whole_records (h vs)
    unfolding edit_values values_start values_made
    values_join =
        after_whole u own-u (λ (x : List Float). fill value_width (values_from s b lent_records) (max 1 (k - 1)) (min f (count b) - max 1 (k - 1)) (h x)) vs (λ r.
        fill-append value_width (values_from s b lent_records) (value_width_lem s b lent_records) (max 1 (k - 1)) (min f (count b) - max 1 (k - 1)) (h (contents u vs)) r
        (λ z. omega (arith, h-long, values-roomy))
        ∙ ap (fill value_width (values_from s b lent_records) (max 1 (k - 1)) (min f (count b) - max 1 (k - 1))) (h-append r))
        ∙ fill-same value_width (values_from s b lent_records) (values_from s b whole_records) (max 1 (k - 1)) (min f (count b) - max 1 (k - 1)) (h vs)
        (λ j x y. values_from_same s b lent_records whole_records j (omega arith) (omega arith) (λ i p q. record_joins i q))

    -- both tables of the opened chart after it
    pub edit_joins : (c : List ℕ) → state c (table_after t lent_records rs) (table_after u (edit_values s b k f lent_records (h (contents u vs))) vs)
        ≡ state c whole_records (edit_values s b k f whole_records (h vs))
    edit_joins c = λ i. record { chart = c; records = records_join i; values = values_join i }

module _ (k : ℕ) (t u : Borrowed) (own-t : IsOwn t) (own-u : IsOwn u) (st : State) where
  replace_joins : (o : List ℕ) → Taken st.chart k o → Roomy (length (contents t st.records)) (length (contents u st.values)) (count st.chart)
      → let c : Call = record { operation = replace k o; records = t; values = u } in state_after c (edited k o (lent c st)) st ≡ edited k o st
  unfolding state_after lent edited
  replace_joins o a r =
      let b = put_object k o st.chart in
      let n : count b ≡ count st.chart = count_same k o st.chart a in
      edit_joins (settings_of b) b k (replaced_records k) (replaced_values k) t u own-t own-u st.records st.values (λ x. x) (λ x. x)
      (λ x. refl) (λ x. refl) refl refl (omega (arith, n, r.records)) (omega (arith, n, r.values)) b

  insert_joins : (o : List ℕ) → Inserted st.chart k o → Roomy (length (contents t st.records)) (length (contents u st.values)) (suc (count st.chart))
      → let c : Call = record { operation = insert k o; records = t; values = u } in state_after c (put_in k o (lent c st)) st ≡ put_in k o st
  unfolding state_after lent put_in
  insert_joins o a r =
      let b = insert_object k o st.chart in
      let n : count b ≡ suc (count st.chart) = (inserted_more st.chart k o a).counts in
      let from = first_moved k in
      let to = count st.chart in
      let x = contents t st.records in
      let y = contents u st.values in
      edit_joins (settings_of b) b k (inserted_records k) (inserted_values k) t u own-t own-u st.records st.values (rows_up record_width from to) (rows_up value_width from to)
      (λ z. sym (rows_up_append record_width from to x (λ p. omega (arith, r.records)) z)) (λ z. sym (rows_up_append value_width from to y (λ p. omega (arith, r.values)) z))
      (length_rows_up record_width from to x (λ p. omega (arith, r.records))) (length_rows_up value_width from to y (λ p. omega (arith, r.values)))
      (omega (arith, n, r.records)) (omega (arith, n, r.values)) b

  remove_joins : Removed st.chart k → Roomy (length (contents t st.records)) (length (contents u st.values)) (count st.chart)
      → let c : Call = record { operation = remove k; records = t; values = u } in state_after c (taken_out k (lent c st)) st ≡ taken_out k st
  unfolding state_after lent taken_out
  remove_joins a r =
      let b = remove_object k st.chart in
      let n : count st.chart ≡ suc (count b) = (removed_more st.chart k a).counts in
      let from = first_moved k in
      let to = count st.chart in
      let x = contents t st.records in
      let y = contents u st.values in
      edit_joins (settings_of b) b k (removed_records k) (removed_values k) t u own-t own-u st.records st.values (rows_down record_width from to) (rows_down value_width from to)
      (λ z. sym (rows_down_append record_width from to x (λ p. r.records) z)) (λ z. sym (rows_down_append value_width from to y (λ p. r.values) z))
      (length_rows_down record_width from to x (λ p. r.records)) (length_rows_down value_width from to y (λ p. r.values))
      (omega (arith, n, r.records)) (omega (arith, n, r.values)) b

-- a call that is carried out on the opening's tables
pub as_own : (a : Operation) (t u : Borrowed) (st : State) → OwnTables a t u → let c : Call = record { operation = a; records = t; values = u } in
    verdict_in a (lent c st) ≡ Ok tt → ((execute a (lent c st)).answer ≡ (execute a st).answer) × (state_after c (execute a (lent c st)).leaves st ≡ (execute a st).leaves)
unfolding OwnTables verdict_in execute lent
as_own (replace k o) t u st own e =
    let (a, r) = accepted_replace k o (length (contents t st.records)) (length (contents u st.values)) st.chart e in
    (refl, replace_joins k t u own.0 own.1 st o a r)
as_own (insert k o) t u st own e =
    let (a, r) = accepted_insert k o (length (contents t st.records)) (length (contents u st.values)) st.chart e in
    (refl, insert_joins k t u own.0 own.1 st o a r)
as_own (remove k) t u st own e =
    let (a, r) = accepted_remove k (length (contents t st.records)) (length (contents u st.values)) st.chart e in
    (refl, remove_joins k t u own.0 own.1 st a r)
as_own (read_record k) t u st own e =
    let r = accepted_record k (length (contents t st.records)) (length (contents u st.values)) st.chart e in
    let h : record_width * count st.chart ≤ length (contents t st.records) = omega (arith, r.room) in
    (ap record_is (front_record t own (count st.chart) k st.records h r.below), same_state (record { operation = read_record k; records = t; values = u }) st)
as_own (read_values k) t u st own e =
    let r = accepted_values k (length (contents t st.records)) (length (contents u st.values)) st.chart e in
    let h : value_width * k + value_width ≤ length (contents u st.values) = omega (arith, r.room, r.below) in
    (ap values_are (row_lent u own value_width k st.values h), same_state (record { operation = read_values k; records = t; values = u }) st)
as_own (read_detail d k) t u st own e =
    let r = accepted_detail d k (length (contents t st.records)) (length (contents u st.values)) st.chart e in
    let h : record_width * count st.chart ≤ length (contents t st.records) = omega (arith, r.room) in (
      ap detail_is (detail_local d (settings_of st.chart) st.chart (record_at (contents t st.records)) (record_at st.records) k r.one r.below
          (λ i x y. front_record t own (count st.chart) i st.records h y)),
      same_state (record { operation = read_detail d k; records = t; values = u }) st,
    )
as_own (figure f l) t u st own e =
    let (_, h, _, a) = (figure_accepted f l (length (contents t st.records)) (length (contents u st.values)) st.chart).0 e in (
      ap figure_is (figure_local f (settings_of st.chart) st.chart (row value_width (contents u st.values)) (row value_width st.values) a
          (λ i p q. row_lent u own value_width i st.values (omega arith))),
      same_state (record { operation = figure f l; records = t; values = u }) st,
    )

-- ---- What the two machines share

edited_chart : (k : ℕ) (o : List ℕ) (st : State) → (edited k o st).chart ≡ put_object k o st.chart
unfolding edited
edited_chart k o st = refl

put_in_chart : (k : ℕ) (o : List ℕ) (st : State) → (put_in k o st).chart ≡ insert_object k o st.chart
unfolding put_in
put_in_chart k o st = refl

taken_out_chart : (k : ℕ) (st : State) → (taken_out k st).chart ≡ remove_object k st.chart
unfolding taken_out
taken_out_chart k st = refl

-- tables that a call works on are no longer than the opening's
abbrev Shorter : Operation → ℕ → ℕ → State → Type 0
Shorter (replace k o) r v st = Unit {0}
Shorter (insert k o) r v st = (r ≤ length st.records) × (v ≤ length st.values)
Shorter (remove k) r v st = Unit {0}
Shorter (read_record k) r v st = Unit {0}
Shorter (read_values k) r v st = Unit {0}
Shorter (read_detail d k) r v st = Unit {0}
Shorter (figure f l) r v st = Unit {0}

shorter : (a : Operation) (t u : Borrowed) (st : State) → OwnTables a t u → Shorter a (length (contents t st.records)) (length (contents u st.values)) st
unfolding OwnTables
shorter (replace k o) t u st own = tt
shorter (insert k o) t u st own = (lent_shorter t own.0 st.records, lent_shorter u own.1 st.values)
shorter (remove k) t u st own = tt
shorter (read_record k) t u st own = tt
shorter (read_values k) t u st own = tt
shorter (read_detail d k) t u st own = tt
shorter (figure f l) t u st own = tt

pub verdict_lent : (c : Call) (st : State) (r v : ℕ) → length st.records ≡ r → length st.values ≡ v
    → verdict_in c.operation (lent c st) ≡ refusal c.operation (length_of c.records r) (length_of c.values v) st.chart
unfolding verdict_in lent
verdict_lent c st r v e f = λ i. refusal c.operation (length_lent c.records st.records r e i) (length_lent c.values st.values v f i) st.chart

module _ (c : Call) (st : State) where
  plain_accepted : if_accepted (Ok tt) (compute c.operation st.chart) (λ q. (refused q, st.chart)) ≡ compute c.operation st.chart
  unfolding if_accepted
  plain_accepted = refl

  plain_refused : (q : Refusal) → if_accepted (Err q) (compute c.operation st.chart) (λ p. (refused p, st.chart)) ≡ (refused q, st.chart)
  unfolding if_accepted
  plain_refused q = refl

-- ---- The invariant of a list of calls, and a step

-- st₀ is the chart and the tables before the opening
module _ (st₀ : State) where
  -- what holds at any time after the opening
  pub record Inv (st : State) : Type 0 where
    pub opens : Opens st.chart
    pub records_length : length st.records ≡ length st₀.records
    pub values_length : length st.values ≡ length st₀.values
    pub roomy : Roomy (length st.records) (length st.values) (count st.chart)
    pub fresh : Fresh (settings_in st) st

  -- the two machines' results, side by side
  pub record Good (st : State) (x : Answer × State) (y : Answer × List ℕ) : Type 0 where
    pub answer : x.0 ≡ y.0
    pub chart : x.1.chart ≡ y.1
    pub inv : Inv x.1
    pub outside : Outside (count x.1.chart) st x.1

  edited_inv : (k : ℕ) (o : List ℕ) (st : State) → Inv st → Taken st.chart k o → Inv (edited k o st)
  unfolding edited
  edited_inv k o st i a =
      let (l, m) = edited_lengths k o st a i.roomy in
      record {
        opens = a.becomes;
        records_length = l ∙ i.records_length;
        values_length = m ∙ i.values_length;
        roomy = record { records = omega (arith, l, count_same k o st.chart a, i.roomy.records); values = omega (arith, m, count_same k o st.chart a, i.roomy.values) };
        fresh = edited_fresh k o st a i.roomy i.fresh;
      }

  put_in_inv : (k : ℕ) (o : List ℕ) (st : State) → Inv st → Inserted st.chart k o → Roomy (length st.records) (length st.values) (suc (count st.chart)) → Inv (put_in k o st)
  put_in_inv k o st i a r =
      let (l, m) = put_in_lengths k o st a r in
      let n : count (put_in k o st).chart ≡ suc (count st.chart) = ap count (put_in_chart k o st) ∙ (inserted_more st.chart k o a).counts in
      record {
        opens = subst Opens (sym (put_in_chart k o st)) a.becomes;
        records_length = l ∙ i.records_length;
        values_length = m ∙ i.values_length;
        roomy = record { records = omega (arith, l, n, r.records); values = omega (arith, m, n, r.values) };
        fresh = put_in_fresh k o st a r i.fresh;
      }

  taken_out_inv : (k : ℕ) (st : State) → Inv st → Removed st.chart k → Inv (taken_out k st)
  taken_out_inv k st i a =
      let (l, m) = taken_out_lengths k st a i.roomy in
      let n : count st.chart ≡ suc (count (taken_out k st).chart) = (removed_more st.chart k a).counts ∙ ap (λ (b : List ℕ). suc (count b)) (sym (taken_out_chart k st)) in
      record {
        opens = subst Opens (sym (taken_out_chart k st)) a.becomes;
        records_length = l ∙ i.records_length;
        values_length = m ∙ i.values_length;
        roomy = record { records = omega (arith, l, n, i.roomy.records); values = omega (arith, m, n, i.roomy.values) };
        fresh = taken_out_fresh k st a i.roomy i.fresh;
      }

  -- a call that is carried out on the opening's tables
  carried : (a : Operation) (r v : ℕ) (st : State) → Inv st → refusal a r v st.chart ≡ Ok tt → Shorter a r v st
      → Good st ((execute a st).answer, (execute a st).leaves) (compute a st.chart)
  unfolding execute compute
  carried (replace k o) r v st i e h =
      let a = (accepted_replace k o r v st.chart e).0 in
      record { answer = refl; chart = edited_chart k o st; inv = edited_inv k o st i a; outside = edited_outside k o st a i.roomy }
  carried (insert k o) r v st i e h =
      let (a, w) = accepted_insert k o r v st.chart e in
      let m : Roomy (length st.records) (length st.values) (suc (count st.chart)) = record { records = omega (arith, w.records, h.0); values = omega (arith, w.values, h.1) } in
      record { answer = refl; chart = put_in_chart k o st; inv = put_in_inv k o st i a m; outside = put_in_outside k o st a m }
  carried (remove k) r v st i e h =
      let a = (accepted_remove k r v st.chart e).0 in
      record { answer = refl; chart = taken_out_chart k st; inv = taken_out_inv k st i a; outside = taken_out_outside k st a i.roomy }
  carried (read_record k) r v st i e h =
      let a = accepted_record k r v st.chart e in
      record {
        answer = ap record_is (read_back (settings_in st) st.chart st.records k (i.fresh.records k a.one a.below));
        chart = refl;
        inv = i;
        outside = outside_refl (count st.chart) st;
      }
  carried (read_values k) r v st i e h =
      let a = accepted_values k r v st.chart e in
      record { answer = ap values_are (i.fresh.values k a.one a.below); chart = refl; inv = i; outside = outside_refl (count st.chart) st }
  carried (read_detail d k) r v st i e h =
      let a = accepted_detail d k r v st.chart e in
      record { answer = ap detail_is (detail_from_lem d (settings_in st) st k a.one a.below i.fresh); chart = refl; inv = i; outside = outside_refl (count st.chart) st }
  carried (figure f l) r v st i e h =
      let (_, _, _, a) = (figure_accepted f l r v st.chart).0 e in
      record { answer = ap figure_is (figure_from_lem f (settings_in st) st a i.fresh); chart = refl; inv = i; outside = outside_refl (count st.chart) st }

  -- any admissible call
  pub step : (c : Call) (st : State) → Inv st → Admissible st c → Good st (perform c st) (plain (question (length st₀.records) (length st₀.values) c) st.chart)
  unfolding Admissible plain question
  step c st i ok = go (verdict_in c.operation (lent c st)) refl
    where
      asked : Verdict
      asked = refusal c.operation (length_of c.records (length st₀.records)) (length_of c.values (length st₀.values)) st.chart

      alike : verdict_in c.operation (lent c st) ≡ asked
      alike = verdict_lent c st (length st₀.records) (length st₀.values) i.records_length i.values_length

      plainly : Verdict → Answer × List ℕ
      plainly v = if_accepted v (compute c.operation st.chart) (λ q. (refused q, st.chart))

      go : (v : Verdict) → verdict_in c.operation (lent c st) ≡ v → Good st (perform c st) (plainly asked)
      go (Ok tt) e =
          let own = as_own c.operation c.records c.values st (ok e) e in
          subst₂ (Good st) (sym (perform_accepted c st e ∙ (λ j. (own.0 j, own.1 j)))) (sym (ap plainly (sym alike ∙ e) ∙ plain_accepted c st))
          (carried c.operation (length_of c.records (length st₀.records)) (length_of c.values (length st₀.values)) st i (sym alike ∙ e)
          (subst₂ (λ (r v : ℕ). Shorter c.operation r v st)
          (length_lent c.records st.records (length st₀.records) i.records_length) (length_lent c.values st.values (length st₀.values) i.values_length)
          (shorter c.operation c.records c.values st (ok e))))
      go (Err q) e =
          subst₂ (Good st) (sym (perform_refused c st q e)) (sym (ap plainly (sym alike ∙ e) ∙ plain_refused c st q))
          (record { answer = refl; chart = refl; inv = i; outside = outside_refl (count st.chart) st })

  -- the opening itself
  pub opened_inv : Opens st₀.chart → Roomy (length st₀.records) (length st₀.values) (count st₀.chart) → Inv (opened st₀)
  unfolding opened
  opened_inv o r =
      let l = open_records_length (settings_of st₀.chart) st₀.chart st₀.records st₀.values r.records r.values in
      let m = open_values_length (settings_of st₀.chart) st₀.chart st₀.records st₀.values r.records r.values in
      record {
        opens = o;
        records_length = l;
        values_length = m;
        roomy = record { records = omega (arith, l, r.records); values = omega (arith, m, r.values) };
        fresh = open_fresh (settings_of st₀.chart) st₀.chart st₀.records st₀.values r.records r.values;
      }
