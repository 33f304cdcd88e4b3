-- What an insertion or a removal moves, and what it leaves as it was. Assumes nothing.
use Rattle.std.specs.Prelude.{Ok}
use mathlib.Core.Path.{◌≡◌, sym, ap, ◌∙◌}
use mathlib.Core.List.{List}
use Prim.Native.Nat.{ℕ, suc, ◌+◌, ◌≤◌, ◌<◌, max}
use native.Mathlib.Omega.{arith}
use lib.Ieee.{Float}
use lib.ListN.{length}
use Rattle.num_tables.specs.Parts.{row}
use Rattle.chart_opening.specs.Header.{layout_of, settings_of}
use Rattle.chart_opening.specs.Conditions.{Opens}
use Rattle.chart_opening.specs.declared.Settings.{Settings}
use Rattle.chart_inserting.specs.Insert.{insert_object, remove_object}
use Rattle.chart_inserting.specs.OneMore.{OneMore}
use Rattle.skills.specs.Strains.{strains}
use Rattle.skills.specs.Chart.{delta_at}
use Rattle.calls.specs.Tables.{record_width, value_width}
use Rattle.calls.specs.Afresh.{count, object, fresh_record, fresh_values, fresh_strains, strains_from}
use Rattle.calls.specs.Conditions.{insert, remove}
use Rattle.calls.specs.Calls.{State, put_in, taken_out, execute, verdict_in}
use Rattle.calls.specs.Statement.{settings_in, MovedAfresh, Moved}
use Rattle.calls.proofs.Refusals.{accepted_insert, accepted_remove}
use Rattle.calls.proofs.Locality.{record_local, strain_local}
use Rattle.calls.proofs.Moving.{inserted_more, removed_more, object_before, object_later}
use Rattle.calls.proofs.Inserting.{record_moved, value_moved, value_same}
use Rattle.calls.proofs.Steps.{put_in-record_kept, put_in-record-up, put_in_value_kept, put_in_value_up, taken_out_record_kept, taken_out_record-down, taken_out_value_kept, taken_out_value_down}

-- b' is b with one object more, at place k
module _ (k : ℕ) (b b' : List ℕ) (m : OneMore k b b') (o : Opens b) where
  before : (i : ℕ) → i < k → object b' i ≡ object b i
  before = object_before k b b' m o

  later : (i : ℕ) → k ≤ i → i < count b → object b' (suc i) ≡ object b i
  later = object_later k b b' m o

  -- under the settings of either
  records_before : (j : ℕ) → j < k → fresh_record (settings_of b') b' j ≡ fresh_record (settings_of b) b j
  records_before j h =
      ap (λ s. fresh_record s b' j) m.settings ∙ record_local (settings_of b) b' b j (λ i x y. before i (omega arith))

  values_before : (j : ℕ) → 1 ≤ j → j + 1 < k → fresh_values (settings_of b') b' j ≡ fresh_values (settings_of b) b j
  values_before j p h = ap (λ s. fresh_values s b' j) m.settings ∙ sym (value_same (settings_of b) k b b' m.counts m.at before later j p h)

  -- strains from values that are the same up to their place
  strains_from_lem : (vs vs' : ℕ → List Float) (j : ℕ) → j + 1 < k → ((i : ℕ) → 1 ≤ i → i ≤ j → vs' i ≡ vs i)
      → strains (delta_at b' (layout_of b') (settings_of b').clock_rate) vs' j ≡ strains (delta_at b (layout_of b) (settings_of b).clock_rate) vs j
  strains_from_lem vs vs' j h e =
      ap (λ (s : Settings). strains (delta_at b' (layout_of b') s.clock_rate) vs' j) m.settings
      ∙ strain_local (settings_of b) b' b vs' vs j (λ i x. before i (omega arith)) e

  strains_before : (j : ℕ) → j + 1 < k → fresh_strains (settings_of b') b' j ≡ fresh_strains (settings_of b) b j
  unfolding fresh_strains
  strains_before j h = strains_from_lem (fresh_values (settings_of b) b) (fresh_values (settings_of b') b') j h (λ i x y. values_before i x (omega arith))

  moved_afresh : MovedAfresh k b b'
  moved_afresh = record {
    records_before = records_before;
    records_moved = λ j h q. ap (λ s. fresh_record s b' (suc j)) m.settings ∙ record_moved (settings_of b) k b b' m.counts m.at before later j (omega arith) (omega arith) q;
    values_before = values_before;
    values_moved = λ j h q. ap (λ s. fresh_values s b' (suc j)) m.settings ∙ value_moved (settings_of b) k b b' m.counts m.at before later j h q;
    strains_before = strains_before;
  }

  -- with tables
  strains_kept : (vs vs' : List Float) → ((j : ℕ) → j + 1 < k → row value_width vs' j ≡ row value_width vs j) → (i : ℕ) → i + 1 < k
      → strains_from (settings_of b') b' vs' i ≡ strains_from (settings_of b) b vs i
  unfolding strains_from
  strains_kept vs vs' e i h = strains_from_lem (row value_width vs) (row value_width vs') i h (λ j x y. e j (omega arith))

-- ---- Insertion

module _ (k : ℕ) (o : List ℕ) (st : State) (m : OneMore k st.chart (insert_object k o st.chart)) (p : Opens st.chart) where
  in_strains : ((j : ℕ) → j + 1 < k → row value_width (put_in k o st).values j ≡ row value_width st.values j) → (i : ℕ) → i + 1 < k
      → strains_from (settings_in (put_in k o st)) (put_in k o st).chart (put_in k o st).values i ≡ strains_from (settings_in st) st.chart st.values i
  unfolding put_in
  in_strains h i l = strains_kept k st.chart (insert_object k o st.chart) m p st.values _ h i l

  in_afresh : MovedAfresh k st.chart (put_in k o st).chart
  unfolding put_in
  in_afresh = moved_afresh k st.chart (insert_object k o st.chart) m p

pub insert_moves : (k : ℕ) (o : List ℕ) (st : State) → verdict_in (insert k o) st ≡ Ok tt → Moved k st (execute (insert k o) st).leaves
unfolding verdict_in execute
insert_moves k o st e =
    let (a, r) = accepted_insert k o (length st.records) (length st.values) st.chart e in
    let m = inserted_more st.chart k o a in
    record {
      records_before = put_in-record_kept k o st a r;
      records_moved = put_in-record-up k o st a r;
      values_before = put_in_value_kept k o st a r;
      values_moved = put_in_value_up k o st a r;
      strains_before = in_strains k o st m a.opens (put_in_value_kept k o st a r);
      afresh = in_afresh k o st m a.opens;
    }

-- ---- Removal

module _ (k : ℕ) (st : State) (m : OneMore k (remove_object k st.chart) st.chart) (p : Opens (remove_object k st.chart)) where
  out_records : ((j : ℕ) → max (k + 2) 3 ≤ j → j < count (remove_object k st.chart) → row record_width (taken_out k st).records j ≡ row record_width st.records (suc j))
      → (j : ℕ) → max (k + 2) 3 ≤ j → j < count (taken_out k st).chart → row record_width st.records (suc j) ≡ row record_width (taken_out k st).records j
  unfolding taken_out
  out_records f j h q = sym (f j h q)

  out_values : ((j : ℕ) → k + 33 ≤ j → j < count (remove_object k st.chart) → row value_width (taken_out k st).values j ≡ row value_width st.values (suc j))
      → (j : ℕ) → k + 33 ≤ j → j < count (taken_out k st).chart → row value_width st.values (suc j) ≡ row value_width (taken_out k st).values j
  unfolding taken_out
  out_values f j h q = sym (f j h q)

  out_strains : ((j : ℕ) → j + 1 < k → row value_width st.values j ≡ row value_width (taken_out k st).values j) → (i : ℕ) → i + 1 < k
      → strains_from (settings_in st) st.chart st.values i ≡ strains_from (settings_in (taken_out k st)) (taken_out k st).chart (taken_out k st).values i
  unfolding taken_out
  out_strains h i l = strains_kept k (remove_object k st.chart) st.chart m p _ st.values h i l

  out_afresh : MovedAfresh k (taken_out k st).chart st.chart
  unfolding taken_out
  out_afresh = moved_afresh k (remove_object k st.chart) st.chart m p

pub remove_moves : (k : ℕ) (st : State) → verdict_in (remove k) st ≡ Ok tt → Moved k (execute (remove k) st).leaves st
unfolding verdict_in execute
remove_moves k st e =
    let (a, r) = accepted_remove k (length st.records) (length st.values) st.chart e in
    let m = removed_more st.chart k a in
    record {
      records_before = λ j h. sym (taken_out_record_kept k st a r j h);
      records_moved = out_records k st m a.becomes (taken_out_record-down k st a r);
      values_before = λ j h. sym (taken_out_value_kept k st a r j h);
      values_moved = out_values k st m a.becomes (taken_out_value_down k st a r);
      strains_before = out_strains k st m a.becomes (λ j h. sym (taken_out_value_kept k st a r j h));
      afresh = out_afresh k st m a.becomes;
    }
