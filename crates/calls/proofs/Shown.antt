-- What holds at any time after an opening is all that the station shows (`Shown`). Assumes nothing.
use Rattle.std.specs.Prelude.{Ok}
use mathlib.Core.Path.{◌≡◌, sym, ◌∙◌}
use Prim.Native.Nat.{ℕ, ◌≤◌, ◌<◌}
use lib.ListN.{length}
use Rattle.num_tables.specs.Parts.{row}
use Rattle.chart_opening.specs.Header.{settings_of}
use Rattle.calls.specs.Tables.{record_width, value_width}
use Rattle.calls.specs.Afresh.{count, fresh_row, fresh_values}
use Rattle.calls.specs.Calls.{State, opened, open_answer}
use Rattle.calls.specs.Statement.{Fresh, settings_in, Shown}
use Rattle.calls.proofs.Refusals.{opening_met, opening_none}
use Rattle.calls.proofs.Locality.{strain_from, detail_from_lem, figure_from_lem, aim_held, rhythm_held, open_fresh, read_back}
use Rattle.calls.proofs.Steps.{Inv}

-- opening a chart, into any tables, gives what is worked out afresh
reopened : (st : State) → open_answer st ≡ Ok tt → Fresh (settings_of st.chart) (opened st)
unfolding opened open_answer
reopened st e =
    let (o, r) = opening_met (length st.records) (length st.values) st.chart e in
    open_fresh (settings_of st.chart) st.chart st.records st.values r.records r.values

pub opened_values : (st : State) → open_answer st ≡ Ok tt → (j : ℕ) → 1 ≤ j → j < count st.chart
    → row value_width (opened st).values j ≡ fresh_values (settings_of st.chart) st.chart j
unfolding opened
opened_values st e j p q = (reopened st e).values j p q

opened_records : (st : State) → open_answer st ≡ Ok tt → (j : ℕ) → 1 ≤ j → j < count st.chart
    → row record_width (opened st).records j ≡ fresh_row (settings_of st.chart) st.chart j
unfolding opened
opened_records st e j p q = (reopened st e).records j p q

-- what holds at any time after the opening is all that is shown
pub shown : (st₀ st : State) → Inv st₀ st → Shown st
shown st₀ st i =
    record {
      opens = λ r v x y. opening_none r v st.chart i.opens x y;
      fresh = i.fresh;
      reads = λ j p q. read_back (settings_in st) st.chart st.records j (i.fresh.records j p q);
      strains = λ j p q. strain_from (settings_in st) st j q i.fresh;
      details = λ d j p q. detail_from_lem d (settings_in st) st j p q i.fresh;
      figures = λ f a. figure_from_lem f (settings_in st) st a i.fresh;
      rhythm = λ j p q. rhythm_held (settings_in st) st j p q i.fresh;
      aim = λ j p q sliders. aim_held (settings_in st) st j p q i.fresh sliders;
      again = λ rs vs e' j p q.
          let copy : State = record { chart = st.chart; records = rs; values = vs } in
          (i.fresh.records j p q ∙ sym (opened_records copy e' j p q), i.fresh.values j p q ∙ sym (opened_values copy e' j p q));
    }
