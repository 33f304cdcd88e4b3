-- What is worked out of the second player's chart is what is worked out of the one that is lent, under that player's settings. Assumes nothing.
use Prim.Native.Nat.{ℕ, zero, suc, ◌+◌, ◌-◌, min}
use Rattle.std.specs.Prelude.{◌≡◌, true, false, List, Float}
use Rattle.std.proofs.Math.Path.{refl, ap}
use Rattle.std.proofs.Common.{◌∙◌}
use Rattle.std.proofs.Math.Dec.{eqb}
use Rattle.num_floats.specs.Numbers.{◌⊖◌, ◌⊘◌}
use Rattle.num_tables.specs.Parts.{row, fill}
use Rattle.chart_fields.specs.Objects.{fields_of, slider}
use Rattle.chart_fields.specs.declared.Layout.{Layout}
use Rattle.chart_entries.specs.Entries.{nested_of, point_of}
use Rattle.chart_opening.specs.Header.{layout_of}
use Rattle.chart_opening.specs.declared.Settings.{Settings}
use Rattle.chart_players.specs.Second.{under}
use Rattle.chart_players.specs.Under.{layout_under, fields_under, nested_under, points_under}
use Rattle.osu_object.specs.Osu.{osu_object, list_from}
use Rattle.osu_object.proofs.Alike as Same
use Rattle.osu_difficulty_object.specs.Record.{chart_record, record_of}
use Rattle.osu_records.specs.Rows.{row_of, record_at}
use Rattle.eval_aim.specs.Aim.{parts_at_place, aim_at_place}
use Rattle.eval_rhythm.specs.Rhythm.{rhythm_at_place}
use Rattle.eval_rhythm.specs.Comparisons.{comparisons_at_place}
use Rattle.eval_values.specs.Values.{reach_of, values_of}
use Rattle.skills.specs.Strains.{total}
use Rattle.skills.specs.Chart.{start_at, delta_at}
use Rattle.skills_counts.specs.Counts as Counts
use Rattle.skills_counts.specs.Chart.{slider_at}
use Rattle.skills_stars.specs.Stars.{ratings_of}
use Rattle.calls.specs.Tables.{record_width, value_width}
use Rattle.calls.specs.Afresh.{count, object, fresh_row, values_from, Detail, aim_parts, rhythm, aim_is, rhythm_is, detail_of, detail_from, Figure, totals, counts, totals_to, playing, ratings, totals_are, counts_are, played_are, ratings_are, totals_of, reached_of, counts_of, figure_of, figure_from}
use Rattle.calls.specs.Calls.{open_start, open_made, open_records, open_values, records_start, records_made, values_start, values_made, edit_records, edit_values}

module _ (t b : List ℕ) where
  pub count_under : count (under t b) ≡ count b
  count_under = ap (λ (l : Layout). l.n) (layout_under t b)

  fields : fields_of (under t b) (layout_of (under t b)) ≡ fields_of b (layout_of b)
  fields = ap (λ (l : Layout). fields_of (under t b) l) (layout_under t b) ∙ fields_under t b

  nested : nested_of (under t b) (layout_of (under t b)) ≡ nested_of b (layout_of b)
  nested = ap (λ (l : Layout). nested_of (under t b) l) (layout_under t b) ∙ nested_under t b

  points : point_of (under t b) (layout_of (under t b)) ≡ point_of b (layout_of b)
  points = ap (λ (l : Layout). point_of (under t b) l) (layout_under t b) ∙ points_under t b

  pub object_under : object (under t b) ≡ object b
  object_under = λ z i. objects i z
    where
      objects : (i : ℕ) → object (under t b) i ≡ object b i
      objects i = Same.object_same (under t b) (layout_of (under t b)) i b (layout_of b) i (record {
        base = λ z. osu_object (fields z i);
        nested_count_lem = λ z. (fields z i).nested_count;
        point_count_lem = λ z. (fields z i).point_count;
        nested = λ k _ z. nested z ((fields z i).first_nested + k);
        points = λ k _ z. points z ((fields z i).first_point + k);
      })

  start_at_lem : (clock : Float) (j : ℕ) → start_at (under t b) (layout_of (under t b)) clock j ≡ start_at b (layout_of b) clock j
  unfolding start_at
  start_at_lem clock zero = refl
  start_at_lem clock (suc j) = λ z. (fields z (suc j)).start ⊘ clock

  -- ---- rows
  module _ (s : Settings) where
    pub row_under : fresh_row s (under t b) ≡ fresh_row s b
    unfolding chart_record
    row_under = λ z j. row_of (record_of s (min j 3) (object_under z j) (object_under z (j - 1)) (object_under z (j - 2)))

    pub values_under : (rs : List Float) → values_from s (under t b) rs ≡ values_from s b rs
    values_under rs = λ z j. values_of s (reach_of (count_under z) j) (object_under z) (record_at rs) j

    pub open_records_under : (rs : List Float) → open_records s (under t b) rs ≡ open_records s b rs
    unfolding open_records
    open_records_under rs = λ z. fill record_width (row_under z) open_start (open_made (count_under z)) rs

    pub open_values_under : (rs vs : List Float) → open_values s (under t b) rs vs ≡ open_values s b rs vs
    unfolding open_values
    open_values_under rs vs = λ z. fill value_width (values_under rs z) open_start (open_made (count_under z)) vs

    pub edit_records_under : (k e : ℕ) (rs : List Float) → edit_records s (under t b) k e rs ≡ edit_records s b k e rs
    unfolding edit_records
    edit_records_under k e rs = λ z. fill record_width (row_under z) (records_start k) (records_made k e (count_under z)) rs

    pub edit_values_under : (k e : ℕ) (rs vs : List Float) → edit_values s (under t b) k e rs vs ≡ edit_values s b k e rs vs
    unfolding edit_values
    edit_values_under k e rs vs = λ z. fill value_width (values_under rs z) (values_start k) (values_made k e (count_under z)) vs

    -- ---- details
    pub detail_under : (d : Detail) (rs : List Float) (j : ℕ) → detail_from d s (under t b) rs j ≡ detail_from d s b rs j
    unfolding detail_of
    detail_under aim_parts rs j = λ z.
        aim_is (aim_at_place (object_under z) (record_at rs) j true) (parts_at_place (object_under z) (record_at rs) j true)
        (aim_at_place (object_under z) (record_at rs) j false) (parts_at_place (object_under z) (record_at rs) j false)
    detail_under rhythm rs j = λ z.
        rhythm_is (rhythm_at_place (object_under z) (record_at rs) (reach_of (count_under z) j) j s.hit_window)
        (comparisons_at_place (object_under z) (record_at rs) j s.hit_window)

    -- ---- figures
    starts : start_at (under t b) (layout_of (under t b)) s.clock_rate ≡ start_at b (layout_of b) s.clock_rate
    starts = λ z j. start_at_lem s.clock_rate j z

    deltas : delta_at (under t b) (layout_of (under t b)) s.clock_rate ≡ delta_at b (layout_of b) s.clock_rate
    unfolding delta_at
    deltas = λ z j. ((fields z j).start ⊖ (fields z (j - 1)).start) ⊘ s.clock_rate

    sliders : slider_at (under t b) (layout_of (under t b)) ≡ slider_at b (layout_of b)
    unfolding slider_at
    sliders = λ z j. eqb (fields z j).kind slider

    reached_under : (m : ℕ) (vs : ℕ → List Float) → reached_of m s (under t b) vs ≡ reached_of m s b vs
    unfolding reached_of
    reached_under m vs = λ z. total (starts z) (deltas z) vs m

    totals_under : (vs : ℕ → List Float) → totals_of s (under t b) vs ≡ totals_of s b vs
    unfolding totals_of
    totals_under vs = λ z. total (starts z) (deltas z) vs (count_under z)

    counts_under : (vs : ℕ → List Float) → counts_of s (under t b) vs ≡ counts_of s b vs
    unfolding counts_of
    counts_under vs = λ z. Counts.counts (starts z) (deltas z) (sliders z) vs (count_under z)

    of_under : (f : Figure) (vs : ℕ → List Float) → figure_of f s (under t b) vs ≡ figure_of f s b vs
    unfolding figure_of
    of_under totals vs = ap totals_are (totals_under vs)
    of_under counts vs = ap counts_are (counts_under vs)
    of_under (totals_to m) vs = ap totals_are (reached_under m vs)
    of_under (playing n) vs = λ z. played_are (list_from (λ m. reached_under m vs z) 0 (count_under z + 1))
    of_under (ratings a) vs = λ z. ratings_are (ratings_of (totals_under vs z) (count_under z) a)

    pub figure_under : (f : Figure) (vs : List Float) → figure_from f s (under t b) vs ≡ figure_from f s b vs
    figure_under f vs = of_under f (row value_width vs)
