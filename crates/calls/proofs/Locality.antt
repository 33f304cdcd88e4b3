-- What a record, a value and a strain depend on; and that opening and replacing leave fresh tables. Assumes nothing.
use Rattle.std.specs.Prelude.{Ok}
use mathlib.Core.Path.{◌≡◌, refl, sym, ap, ◌∙◌}
use mathlib.Core.Bool.{Bool, true, false, cond}
use mathlib.Core.List.{List, ◌∷◌}
use Prim.Native.Nat.{ℕ, zero, suc, ◌+◌, ◌-◌, ◌*◌, ◌≤◌, ◌<◌, min}
use native.Mathlib.Omega.{arith}
use native.Mathlib.Decide.{dec_lt}
use lib.Ieee.{Float, nan}
use lib.Dec.{ltb}
use lib.ListN.{length, get_or}
use borrow.Author.Tests.{ltb-false}
use Rattle.num_floats.specs.Numbers.{◌⊖◌, ◌⊘◌}
use Rattle.num_tables.specs.Parts.{row}
use Rattle.num_tables.proofs.Rows.{length-fill, take-fill, drop-fill, row_fill-in, row_fill_out}
use Rattle.chart_opening.specs.Header.{layout_of, settings_of}
use Rattle.chart_opening.specs.Conditions.{first_of}
use Rattle.chart_opening.specs.Accepted.{not_met, head_accepts}
use Rattle.chart_opening.specs.declared.Refusal.TheVariants.{Place}
use Rattle.chart_opening.specs.declared.Settings.{Settings}
use Rattle.chart_replacing.specs.Replace.{put_object}
use Rattle.chart_replacing.specs.Accepted.{Taken}
use Rattle.osu_object.specs.Osu.{Object, object_of, osu_object, list_from}
use Rattle.osu_difficulty_object.specs.Record.{record_of, chart_record}
use Rattle.osu_difficulty_object.proofs.Laws.{start_time_lem, delta_time_lem, lazy_end_x_lem, lazy_end_y_lem}
use Rattle.osu_records.specs.Rows.{row_of, record_at}
use Rattle.osu_records.specs.Sight.{sight_of, view_of}
use Rattle.osu_records.proofs.Laws.{row_length, record_is}
use Rattle.eval_aim.specs.Aim.{combine_of, parts_at_place, aim_at_place}
use Rattle.eval_aim.proofs.Value.{aim_combine, parts_same, aim_same}
use Rattle.eval_rhythm.specs.Rhythm.{cell_of, cells_at, count_before, rhythm_at_place}
use Rattle.eval_rhythm.specs.Comparisons.{comparisons_at_place}
use Rattle.eval_rhythm.proofs.Laws.{rhythm_same, comparisons_same}
use Rattle.eval_values.specs.Values.{reach_of, values_of}
use Rattle.eval_values.specs.Laws.{values_width}
use Rattle.eval_values.proofs.Local.{values_local}
use Rattle.skills.specs.declared.Skills.{Skills}
use Rattle.skills.specs.Strains.{strains}
use Rattle.skills_counts.specs.Chart.{slider_at}
use Rattle.skills_counts.proofs.Local.{counts_local}
use Rattle.skills_stars.specs.Stars.{ratings_of}
use Rattle.skills.specs.Chart.{start_at, delta_at}
use Rattle.skills.proofs.Local.{strains_local, total_local}
use Rattle.calls.specs.Tables.{record_width, value_width}
use Rattle.calls.specs.Afresh.{Record, count, object, fresh_record, fresh_row, fresh_values, fresh_strains, values_from, strains_from, Detail, aim_parts, rhythm, aim_is, rhythm_is, detail_of, fresh_detail, detail_from, Figure, totals, counts, totals_to, playing, ratings, totals_are, counts_are, played_are, ratings_are, reached_of, counts_of, totals_of, figure_of, fresh_figure, figure_from}
use Rattle.calls.specs.Conditions.{asked_conditions}
use Rattle.calls.specs.Calls.{State, state, open_records, open_values, open_start, open_made, edit_records, edit_values, records_start, records_made, values_start, values_made}
use Rattle.calls.specs.Statement.{Fresh, Outside, value_found, FrameAfresh}
use Rattle.calls.proofs.Replacing.{count_same, settings_same, object_same}

-- ---- Locality

-- the record of j is the same in charts whose objects j - 2 to j are
pub record_local : (s : Settings) (b b' : List ℕ) (j : ℕ)
    → ((i : ℕ) → j ≤ i + 2 → i ≤ j → object b i ≡ object b' i) → fresh_record s b j ≡ fresh_record s b' j
unfolding chart_record
record_local s b b' j h = λ t.
    record_of s (min j 3) (h j (omega arith) (omega arith) t) (h (j - 1) (omega arith) (omega arith) t) (h (j - 2) (omega arith) (omega arith) t)

pub row_local : (s : Settings) (b b' : List ℕ) (j : ℕ)
    → ((i : ℕ) → j ≤ i + 2 → i ≤ j → object b i ≡ object b' i) → fresh_row s b j ≡ fresh_row s b' j
row_local s b b' j h = ap row_of (record_local s b b' j h)

-- a row that holds a record gives it back: its lazy end is of f32 numbers
pub read_back : (s : Settings) (b : List ℕ) (rs : List Float) (j : ℕ) → row record_width rs j ≡ fresh_row s b j → record_at rs j ≡ fresh_record s b j
unfolding chart_record
read_back s b rs j h =
    record_is rs j (chart_record b (layout_of b) s j) (record {
      x = lazy_end_x_lem s (min j 3) (object b j) (object b (j - 1)) (object b (j - 2));
      y = lazy_end_y_lem s (min j 3) (object b j) (object b (j - 1)) (object b (j - 2));
    }) h

-- its times, where objects j - 1 and j are
pub start_same : (s : Settings) (b b' : List ℕ) (j j' : ℕ) → object b j ≡ object b' j' → (fresh_record s b j).start_time ≡ (fresh_record s b' j').start_time
unfolding chart_record
start_same s b b' j j' h =
    start_time_lem s (min j 3) (object b j) (object b (j - 1)) (object b (j - 2))
    ∙ (ap (λ (o : Object). o.base.start_time ⊘ s.clock_rate) h ∙ sym (start_time_lem s (min j' 3) (object b' j') (object b' (j' - 1)) (object b' (j' - 2))))

pub delta_same : (s : Settings) (b b' : List ℕ) (j j' : ℕ) → object b (j - 1) ≡ object b' (j' - 1) → object b j ≡ object b' j'
    → (fresh_record s b j).delta_time ≡ (fresh_record s b' j').delta_time
unfolding chart_record
delta_same s b b' j j' g h =
    delta_time_lem s (min j 3) (object b j) (object b (j - 1)) (object b (j - 2))
    ∙ ((λ t. ((h t).base.start_time ⊖ (g t).base.start_time) ⊘ s.clock_rate)
    ∙ sym (delta_time_lem s (min j' 3) (object b' j') (object b' (j' - 1)) (object b' (j' - 2))))

pub reach_at : (b : List ℕ) (j : ℕ) → j < count b → (j ≤ reach_of (count b) j) × (reach_of (count b) j ≤ j + 1) × (reach_of (count b) j < count b)
reach_at b j h = (omega arith, omega arith, omega arith)

-- the values of j are the same in charts that reach alike from j and whose objects j - 33 to j + 1 are the same
pub value_local : (s : Settings) (b b' : List ℕ) (j : ℕ) → 1 ≤ j → j < count b → reach_of (count b) j ≡ reach_of (count b') j
    → ((i : ℕ) → j ≤ i + 33 → i ≤ reach_of (count b) j → object b i ≡ object b' i) → fresh_values s b j ≡ fresh_values s b' j
unfolding fresh_values
value_local s b b' j p q e h =
    let r : (j ≤ reach_of (count b) j) × (reach_of (count b) j ≤ j + 1) × (reach_of (count b) j < count b) = reach_at b j q in
    values_local s (reach_of (count b) j) (object b) (object b') (λ i. fresh_record s b i) (λ i. fresh_record s b' i) j p r.0 r.1
    h
    (λ i x y z. record_local s b b' i (λ m c d. h m (omega arith) (omega arith)))
    (λ i x y z. start_same s b b' i i (h i (omega arith) z))
    (λ i x y z. delta_same s b b' i i (h (i - 1) (omega arith) (omega arith)) (h i (omega arith) z))
    ∙ (λ t. values_of s (e t) (object b') (λ i. fresh_record s b' i) j)

-- values from tables that hold the same records
pub values_from_same : (s : Settings) (b : List ℕ) (rs rs' : List Float) (j : ℕ) → 1 ≤ j → j < count b
    → ((i : ℕ) → 1 ≤ i → i < count b → record_at rs i ≡ record_at rs' i) → values_from s b rs j ≡ values_from s b rs' j
values_from_same s b rs rs' j p q h =
    let r : (j ≤ reach_of (count b) j) × (reach_of (count b) j ≤ j + 1) × (reach_of (count b) j < count b) = reach_at b j q in
    values_local s (reach_of (count b) j) (object b) (object b) (λ i. record_at rs i) (λ i. record_at rs' i) j p r.0 r.1
    (λ i x y. refl)
    (λ i x y z. h i x (omega arith))
    (λ i x y z t. (h i x (omega arith) t).start_time)
    (λ i x y z t. (h i x (omega arith) t).delta_time)

-- values worked out from a table of records that is fresh are fresh
pub value_from : (s : Settings) (b : List ℕ) (rs : List Float) (j : ℕ) → 1 ≤ j → j < count b
    → ((i : ℕ) → 1 ≤ i → i < count b → row record_width rs i ≡ fresh_row s b i) → values_from s b rs j ≡ fresh_values s b j
unfolding fresh_values
value_from s b rs j p q h =
    let r : (j ≤ reach_of (count b) j) × (reach_of (count b) j ≤ j + 1) × (reach_of (count b) j < count b) = reach_at b j q in
    values_local s (reach_of (count b) j) (object b) (object b) (λ i. record_at rs i) (λ i. fresh_record s b i) j p r.0 r.1
    (λ i x y. refl)
    (λ i x y z. read_back s b rs i (h i x (omega arith)))
    (λ i x y z t. (read_back s b rs i (h i x (omega arith)) t).start_time)
    (λ i x y z t. (read_back s b rs i (h i x (omega arith)) t).delta_time)

-- ---- Details

module _ (b : List ℕ) (rs rs' : ℕ → Record) (j : ℕ) (p : 1 ≤ j) (q : j < count b) (h : (i : ℕ) → 1 ≤ i → i < count b → rs i ≡ rs' i) where
  -- what stands k places back
  view_at : (k : ℕ) → k ≤ min (j - 1) 3 → view_of (object b) rs j k ≡ view_of (object b) rs' j k
  view_at k x = ap (λ (r : Record). sight_of r (object b (j - k))) (h (j - k) (omega arith) (omega arith))

  aim_at : (sliders : Bool) → aim_at_place (object b) rs j sliders ≡ aim_at_place (object b) rs' j sliders
  aim_at sliders = aim_same (view_of (object b) rs j) (view_of (object b) rs' j) (j - 1) (j - 1) sliders refl view_at

  parts_at : (sliders : Bool) → parts_at_place (object b) rs j sliders ≡ parts_at_place (object b) rs' j sliders
  parts_at sliders = parts_same (view_of (object b) rs j) (view_of (object b) rs' j) (j - 1) (j - 1) sliders refl view_at

  cell_at : (k : ℕ) → k ≤ count_before j → cells_at (object b) rs j k ≡ cells_at (object b) rs' j k
  cell_at k x = ap (λ (r : Record). cell_of (sight_of r (object b (j - k)))) (h (j - k) (omega arith) (omega arith))

  rhythm_at : (window : Float) → rhythm_at_place (object b) rs (reach_of (count b) j) j window ≡ rhythm_at_place (object b) rs' (reach_of (count b) j) j window
  rhythm_at window =
      rhythm_same (object b) (object b) rs rs' (reach_of (count b) j) (reach_of (count b) j) j j window refl cell_at refl
      (λ x. ap (λ (r : Record). r.delta_time) (h (j + 1) (omega arith) (omega arith)))

  comparisons_at : (window : Float) → comparisons_at_place (object b) rs j window ≡ comparisons_at_place (object b) rs' j window
  comparisons_at window = comparisons_same (object b) (object b) rs rs' j j window refl cell_at

-- a detail sees the records of places 1 to N - 1: each kind of detail adds one case here
pub detail_local : (d : Detail) (s : Settings) (b : List ℕ) (rs rs' : ℕ → Record) (j : ℕ) → 1 ≤ j → j < count b
    → ((i : ℕ) → 1 ≤ i → i < count b → rs i ≡ rs' i) → detail_of d s b rs j ≡ detail_of d s b rs' j
unfolding detail_of
detail_local aim_parts s b rs rs' j p q h = λ t.
    aim_is (aim_at b rs rs' j p q h true t) (parts_at b rs rs' j p q h true t) (aim_at b rs rs' j p q h false t) (parts_at b rs rs' j p q h false t)
detail_local rhythm s b rs rs' j p q h = λ t. rhythm_is (rhythm_at b rs rs' j p q h s.hit_window t) (comparisons_at b rs rs' j p q h s.hit_window t)

pub detail_from_lem : (d : Detail) (s : Settings) (st : State) (j : ℕ) → 1 ≤ j → j < count st.chart → Fresh s st
    → detail_from d s st.chart st.records j ≡ fresh_detail d s st.chart j
detail_from_lem d s st j p q f =
    detail_local d s st.chart (record_at st.records) (fresh_record s st.chart) j p q (λ i x y. read_back s st.chart st.records i (f.records i x y))

-- the parts put together are the value that the table holds
pub aim_held : (s : Settings) (st : State) (j : ℕ) → 1 ≤ j → j < count st.chart → Fresh s st → (sliders : Bool)
    → combine_of (parts_at_place (object st.chart) (record_at st.records) j sliders) sliders ≡ get_or (row value_width st.values j) (cond sliders 0 1) nan
unfolding fresh_values values_of
aim_held s st j p q f sliders =
    aim_combine (view_of (object st.chart) (record_at st.records) j) (j - 1) sliders
    ∙ (aim_at st.chart (record_at st.records) (fresh_record s st.chart) j p q (λ i x y. read_back s st.chart st.records i (f.records i x y)) sliders
    ∙ (column sliders ∙ ap (λ (v : List Float). get_or v (cond sliders 0 1) nan) (sym (f.values j p q))))
  where
    column : (with : Bool) → aim_at_place (object st.chart) (fresh_record s st.chart) j with ≡ get_or (fresh_values s st.chart j) (cond with 0 1) nan
    column true = refl
    column false = refl

pub rhythm_held : (s : Settings) (st : State) (j : ℕ) → 1 ≤ j → j < count st.chart → Fresh s st
    → value_found (detail_from rhythm s st.chart st.records j) ≡ get_or (row value_width st.values j) 3 nan
unfolding detail_of fresh_values values_of value_found
rhythm_held s st j p q f =
    rhythm_at st.chart (record_at st.records) (fresh_record s st.chart) j p q (λ i x y. read_back s st.chart st.records i (f.records i x y)) s.hit_window
    ∙ ap (λ (v : List Float). get_or v 3 nan) (sym (f.values j p q))

-- so are strains
pub strain_from : (s : Settings) (st : State) (j : ℕ) → j < count st.chart → Fresh s st → strains_from s st.chart st.values j ≡ fresh_strains s st.chart j
unfolding strains_from fresh_strains
strain_from s st j q f =
    strains_local (delta_at st.chart (layout_of st.chart) s.clock_rate) (delta_at st.chart (layout_of st.chart) s.clock_rate)
    (row value_width st.values) (fresh_values s st.chart) j (λ i x y. refl) (λ i x y. f.values i x (omega arith))

pub reached_local : (m : ℕ) (s : Settings) (b : List ℕ) (vs vs' : ℕ → List Float) → ((i : ℕ) → 1 ≤ i → i < m → vs i ≡ vs' i) → reached_of m s b vs ≡ reached_of m s b vs'
unfolding reached_of
reached_local m s b vs vs' h =
    let d = delta_at b (layout_of b) s.clock_rate in
    let t = start_at b (layout_of b) s.clock_rate in
    total_local d d vs vs' t t m (λ i x. refl) (λ i x y. refl) h

-- of a list, number by number
listed_local : {A : Type 0} (f g : ℕ → A) (i n : ℕ) → ((k : ℕ) → i ≤ k → k < i + n → f k ≡ g k) → list_from f i n ≡ list_from g i n
unfolding list_from
listed_local f g i zero h = refl
listed_local f g i (suc n) h = λ t. h i (omega arith) (omega arith) t ∷ listed_local f g (suc i) n (λ k x y. h k (omega arith) (omega arith)) t

counted_local : (s : Settings) (b : List ℕ) (vs vs' : ℕ → List Float) → ((i : ℕ) → 1 ≤ i → i < count b → vs i ≡ vs' i) → counts_of s b vs ≡ counts_of s b vs'
unfolding counts_of
counted_local s b vs vs' h =
    let d = delta_at b (layout_of b) s.clock_rate in
    let t = start_at b (layout_of b) s.clock_rate in
    let k = slider_at b (layout_of b) in
    counts_local d d k k vs vs' t t (count b) (λ i x. refl) (λ i x y. refl) (λ i x y. refl) h

-- what comes with a call for the totals after m objects passes: there are as many
some_objects : (m n : ℕ) → first_of (asked_conditions (totals_to m) n) ≡ Ok tt → m ≤ n
unfolding asked_conditions
some_objects m n e = ltb-false n m (not_met (ltb n m) Place (head_accepts _ _ e))

pub totals_local : (s : Settings) (b : List ℕ) (vs vs' : ℕ → List Float) → ((i : ℕ) → 1 ≤ i → i < count b → vs i ≡ vs' i) → totals_of s b vs ≡ totals_of s b vs'
unfolding totals_of
totals_local s b vs vs' h =
    let d = delta_at b (layout_of b) s.clock_rate in
    let t = start_at b (layout_of b) s.clock_rate in
    total_local d d vs vs' t t (count b) (λ i x. refl) (λ i x y. refl) h

-- a figure whose call passes sees the values of places 1 to N - 1: each kind of figure adds one case here
pub figure_local : (f : Figure) (s : Settings) (b : List ℕ) (vs vs' : ℕ → List Float) → first_of (asked_conditions f (count b)) ≡ Ok tt → ((i : ℕ) → 1 ≤ i → i < count b → vs i ≡ vs' i) → figure_of f s b vs ≡ figure_of f s b vs'
unfolding figure_of
figure_local totals s b vs vs' e h = ap totals_are (totals_local s b vs vs' h)
figure_local counts s b vs vs' e h = ap counts_are (counted_local s b vs vs' h)
figure_local (totals_to m) s b vs vs' e h = ap totals_are (reached_local m s b vs vs' (λ i x y. h i x (omega (arith, some_objects m (count b) e))))
figure_local (playing entries) s b vs vs' e h =
    ap played_are (listed_local (λ m. reached_of m s b vs) (λ m. reached_of m s b vs') 0 (count b + 1) (λ m x y. reached_local m s b vs vs' (λ i p q. h i p (omega arith))))
figure_local (ratings asked) s b vs vs' e h = ap (λ (t : Skills). ratings_are (ratings_of t (count b) asked)) (totals_local s b vs vs' h)

pub figure_from_lem : (f : Figure) (s : Settings) (st : State) → first_of (asked_conditions f (count st.chart)) ≡ Ok tt → Fresh s st → figure_from f s st.chart st.values ≡ fresh_figure f s st.chart
figure_from_lem f s st e h = figure_local f s st.chart (row value_width st.values) (fresh_values s st.chart) e h.values

-- delta times of places whose objects are the same
delta_at_lem : (clock : Float) (b b' : List ℕ) (j : ℕ) → object b (j - 1) ≡ object b' (j - 1) → object b j ≡ object b' j
    → delta_at b (layout_of b) clock j ≡ delta_at b' (layout_of b') clock j
unfolding delta_at object_of osu_object
delta_at_lem clock b b' j g h = λ t. ((h t).base.start_time ⊖ (g t).base.start_time) ⊘ clock

-- a strain sees the objects and the values up to its place
pub strain_local : (s : Settings) (b b' : List ℕ) (vs vs' : ℕ → List Float) (j : ℕ)
    → ((i : ℕ) → i ≤ j → object b i ≡ object b' i) → ((i : ℕ) → 1 ≤ i → i ≤ j → vs i ≡ vs' i)
    → strains (delta_at b (layout_of b) s.clock_rate) vs j ≡ strains (delta_at b' (layout_of b') s.clock_rate) vs' j
strain_local s b b' vs vs' j ho hv =
    strains_local (delta_at b (layout_of b) s.clock_rate) (delta_at b' (layout_of b') s.clock_rate) vs vs' j
    (λ i x y. delta_at_lem s.clock_rate b b' i (ho (i - 1) (omega arith)) (ho i y)) hv

pub record_width_lem : (s : Settings) (b : List ℕ) (j : ℕ) → length (fresh_row s b j) ≡ record_width
record_width_lem s b j = row_length (fresh_record s b j)

pub value_width_lem : (s : Settings) (b : List ℕ) (rs : List Float) (j : ℕ) → length (values_from s b rs j) ≡ value_width
value_width_lem s b rs j = values_width s (reach_of (count b) j) (object b) (record_at rs) j

-- ---- Opening

module _ (s : Settings) (b : List ℕ) (rs vs : List Float) (rh : record_width * count b ≤ length rs) (vh : value_width * count b ≤ length vs) where
  pub open_record : (j : ℕ) → 1 ≤ j → j < count b → row record_width (open_records s b rs) j ≡ fresh_row s b j
  unfolding open_records open_start open_made
  open_record j p q = row_fill-in record_width (fresh_row s b) (record_width_lem s b) j open_start (open_made (count b)) rs (λ z. omega arith) p (omega arith)

  pub open_fresh : Fresh s (state b (open_records s b rs) (open_values s b (open_records s b rs) vs))
  unfolding open_values open_start open_made
  open_fresh = record {
    records = open_record;
    values = λ j p q.
        row_fill-in value_width (values_from s b (open_records s b rs)) (value_width_lem s b (open_records s b rs)) j open_start (open_made (count b)) vs (λ z. omega arith) p (omega arith)
        ∙ value_from s b (open_records s b rs) j p q open_record;
  }

  pub open_records_length : length (open_records s b rs) ≡ length rs
  unfolding open_records open_start open_made
  open_records_length = length-fill record_width (fresh_row s b) (record_width_lem s b) open_start (open_made (count b)) rs (λ z. omega arith)

  pub open_values_length : length (open_values s b (open_records s b rs) vs) ≡ length vs
  unfolding open_values open_start open_made
  open_values_length = length-fill value_width (values_from s b (open_records s b rs)) (value_width_lem s b (open_records s b rs)) open_start (open_made (count b)) vs (λ z. omega arith)

  pub open_outside : Outside (count b) (state b rs vs) (state b (open_records s b rs) (open_values s b (open_records s b rs) vs))
  unfolding open_records open_values open_start open_made
  open_outside = record {
    first_record = take-fill record_width (fresh_row s b) (record_width_lem s b) 1 open_start (open_made (count b)) rs (omega arith) (λ z. omega arith);
    later_records = drop-fill record_width (fresh_row s b) (record_width_lem s b) open_start (open_made (count b)) (count b) rs (λ z. omega arith) (λ z. omega arith);
    first_values = take-fill value_width (values_from s b (open_records s b rs)) (value_width_lem s b (open_records s b rs)) 1 open_start (open_made (count b)) vs (omega arith) (λ z. omega arith);
    later_values = drop-fill value_width (values_from s b (open_records s b rs)) (value_width_lem s b (open_records s b rs)) open_start (open_made (count b)) (count b) vs (λ z. omega arith) (λ z. omega arith);
  }

-- ---- An edit at place k makes records from k to before e and values from k - 1 to before f anew for a chart b of any objects. The settings s are those of any player.

module _
    (s : Settings) (k e f : ℕ) (b : List ℕ) (rs vs : List Float)
    (rh : record_width * count b ≤ length rs) (vh : value_width * count b ≤ length vs)
  where
    records_room : 0 < records_made k e (count b) → record_width * (records_start k + records_made k e (count b)) ≤ length rs
    unfolding records_made records_start
    records_room z = omega arith

    values_room : 0 < values_made k f (count b) → value_width * (values_start k + values_made k f (count b)) ≤ length vs
    unfolding values_made values_start
    values_room z = omega arith

    pub edit_records_length : length (edit_records s b k e rs) ≡ length rs
    unfolding edit_records records_made records_start
    edit_records_length = length-fill record_width (fresh_row s b) (record_width_lem s b) (records_start k) (records_made k e (count b)) rs records_room

    pub edit_values_length : length (edit_values s b k f (edit_records s b k e rs) vs) ≡ length vs
    unfolding edit_values values_made values_start
    edit_values_length = length-fill value_width (values_from s b (edit_records s b k e rs)) (value_width_lem s b (edit_records s b k e rs)) (values_start k) (values_made k f (count b)) vs values_room

    -- rows that it leaves alone
    pub edit_record_kept : (j : ℕ) → (k ≤ j → j < e → ⊥) → row record_width (edit_records s b k e rs) j ≡ row record_width rs j
    unfolding edit_records records_made records_start
    edit_record_kept j o = row_fill_out record_width (fresh_row s b) (record_width_lem s b) j (records_start k) (records_made k e (count b)) rs records_room (λ x y. o (omega arith) (omega arith))

    pub edit_value_kept : (j : ℕ) → (k ≤ j + 1 → j < f → ⊥) → row value_width (edit_values s b k f (edit_records s b k e rs) vs) j ≡ row value_width vs j
    unfolding edit_values values_made values_start
    edit_value_kept j o =
        row_fill_out value_width (values_from s b (edit_records s b k e rs)) (value_width_lem s b (edit_records s b k e rs)) j (values_start k) (values_made k f (count b)) vs values_room
        (λ x y. o (omega arith) (omega arith))

    pub edit_outside : (c : List ℕ) → Outside (count b) (state c rs vs) (state b (edit_records s b k e rs) (edit_values s b k f (edit_records s b k e rs) vs))
    unfolding edit_records edit_values records_made records_start values_made values_start
    edit_outside c = record {
      first_record = take-fill record_width (fresh_row s b) (record_width_lem s b) 1 (records_start k) (records_made k e (count b)) rs (omega arith) records_room;
      later_records = drop-fill record_width (fresh_row s b) (record_width_lem s b) (records_start k) (records_made k e (count b)) (count b) rs (λ z. omega arith) records_room;
      first_values = take-fill value_width (values_from s b (edit_records s b k e rs)) (value_width_lem s b (edit_records s b k e rs)) 1 (values_start k) (values_made k f (count b)) vs (omega arith) values_room;
      later_values = drop-fill value_width (values_from s b (edit_records s b k e rs)) (value_width_lem s b (edit_records s b k e rs)) (values_start k) (values_made k f (count b)) (count b) vs (λ z. omega arith) values_room;
    }

    -- rows that it makes anew
    pub edit_record_made : (j : ℕ) → 1 ≤ j → j < count b → k ≤ j → j < e → row record_width (edit_records s b k e rs) j ≡ fresh_row s b j
    unfolding edit_records records_made records_start
    edit_record_made j p q x y = row_fill-in record_width (fresh_row s b) (record_width_lem s b) j (records_start k) (records_made k e (count b)) rs records_room (omega arith) (omega arith)

    pub edit_value_made : (j : ℕ) → 1 ≤ j → j < count b → k ≤ j + 1 → j < f
        → row value_width (edit_values s b k f (edit_records s b k e rs) vs) j ≡ values_from s b (edit_records s b k e rs) j
    unfolding edit_values values_made values_start
    edit_value_made j p q x y =
        row_fill-in value_width (values_from s b (edit_records s b k e rs)) (value_width_lem s b (edit_records s b k e rs)) j (values_start k) (values_made k f (count b)) vs values_room (omega arith) (omega arith)

-- ---- Replacing: the chart b' has the objects of b but for place k, and tables that were fresh for b are brought up to date

module _
    (s : Settings) (k : ℕ) (b b' : List ℕ) (rs vs : List Float)
    (rh : record_width * count b' ≤ length rs) (vh : value_width * count b' ≤ length vs)
    (counts : count b' ≡ count b)
    (same : (i : ℕ) → (i ≡ k → ⊥) → object b' i ≡ object b i)
    (f : Fresh s (state b rs vs))
  where
    abbrev rs' : List Float
    rs' = edit_records s b' k (k + 3) rs

    abbrev vs' : List Float
    vs' = edit_values s b' k (k + 34) rs' vs

    reach_same : (j : ℕ) → reach_of (count b) j ≡ reach_of (count b') j
    reach_same j = omega arith

    edit_record : (j : ℕ) → 1 ≤ j → j < count b' → row record_width rs' j ≡ fresh_row s b' j
    edit_record j p q = go (dec_lt j k) (dec_lt (k + 2) j)
      where
        kept : (k ≤ j → j < k + 3 → ⊥) → row record_width rs' j ≡ fresh_row s b' j
        kept o =
            edit_record_kept s k (k + 3) (k + 34) b' rs vs rh vh j o ∙ (f.records j p (omega arith) ∙
            row_local s b b' j (λ i x y. sym (same i (λ e. o (omega arith) (omega arith)))))

        go : Dec (j < k) → Dec (k + 2 < j) → row record_width rs' j ≡ fresh_row s b' j
        go (yes x) d = kept (λ a c. omega arith)
        go (no x) (yes y) = kept (λ a c. omega arith)
        go (no x) (no y) = edit_record_made s k (k + 3) (k + 34) b' rs vs rh vh j p q (omega arith) (omega arith)

    edit_value : (j : ℕ) → 1 ≤ j → j < count b' → row value_width vs' j ≡ fresh_values s b' j
    edit_value j p q = go (dec_lt (j + 1) k) (dec_lt (k + 33) j)
      where
        kept : (k ≤ j + 1 → j < k + 34 → ⊥) → row value_width vs' j ≡ fresh_values s b' j
        kept o =
            edit_value_kept s k (k + 3) (k + 34) b' rs vs rh vh j o ∙ (f.values j p (omega arith) ∙
            value_local s b b' j p (omega arith) (reach_same j)
            (λ i x y. sym (same i (λ e. o (omega (arith, reach_at b j (omega arith))) (omega arith)))))

        go : Dec (j + 1 < k) → Dec (k + 33 < j) → row value_width vs' j ≡ fresh_values s b' j
        go (yes x) d = kept (λ a c. omega arith)
        go (no x) (yes y) = kept (λ a c. omega arith)
        go (no x) (no y) = edit_value_made s k (k + 3) (k + 34) b' rs vs rh vh j p q (omega arith) (omega arith) ∙ value_from s b' rs' j p q edit_record

    pub edit_fresh : Fresh s (state b' rs' vs')
    edit_fresh = record { records = edit_record; values = edit_value }

-- ---- What a replacement leaves as it was, worked out afresh

module _ (k : ℕ) (o b : List ℕ) (a : Taken b k o) where
  afresh_record : (j : ℕ) → (k ≤ j → j ≤ k + 2 → ⊥) → fresh_record (settings_of (put_object k o b)) (put_object k o b) j ≡ fresh_record (settings_of b) b j
  afresh_record j h =
      ap (λ s. fresh_record s (put_object k o b) j) (settings_same k o b a)
      ∙ record_local (settings_of b) (put_object k o b) b j (λ i x y. object_same k o b a i (λ e. h (omega arith) (omega arith)))

  same_reach : (j : ℕ) → reach_of (count b) j ≡ reach_of (count (put_object k o b)) j
  same_reach j = omega (arith, count_same k o b a)

  afresh_value : (j : ℕ) → 1 ≤ j → j < count b → (k ≤ j + 1 → j ≤ k + 33 → ⊥)
      → fresh_values (settings_of (put_object k o b)) (put_object k o b) j ≡ fresh_values (settings_of b) b j
  afresh_value j p q h =
      ap (λ s. fresh_values s (put_object k o b) j) (settings_same k o b a)
      ∙ sym (value_local (settings_of b) b (put_object k o b) j p q (same_reach j)
      (λ i x y. sym (object_same k o b a i (λ e. h (omega (arith, reach_at b j q)) (omega arith)))))

  afresh_strain : (j : ℕ) → j + 1 < k → fresh_strains (settings_of (put_object k o b)) (put_object k o b) j ≡ fresh_strains (settings_of b) b j
  unfolding fresh_strains
  afresh_strain j h =
      ap (λ (s : Settings). strains (delta_at (put_object k o b) (layout_of (put_object k o b)) s.clock_rate) (fresh_values (settings_of (put_object k o b)) (put_object k o b)) j) (settings_same k o b a)
      ∙ strain_local (settings_of b) (put_object k o b) b _ _ j
      (λ i x. object_same k o b a i (λ e. omega arith))
      (λ i x y. afresh_value i x (omega (arith, a.below)) (λ c d. omega arith))

  pub afresh_frame : FrameAfresh k b (put_object k o b)
  afresh_frame = record {
    records_before = λ j q h. afresh_record j (λ x y. omega arith);
    records_after = λ j q h. afresh_record j (λ x y. omega arith);
    values_before = λ j p q h. afresh_value j p q (λ x y. omega arith);
    values_after = λ j p q h. afresh_value j p q (λ x y. omega arith);
    strains_before = afresh_strain;
  }
