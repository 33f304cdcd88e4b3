-- An edit, by the condition that it meets: refused it changes nothing, accepted it is carried out. Assumes nothing.
use Rattle.std.specs.Prelude.{Ok, Err}
use Prim.Native.Nat.{ℕ, ◌-◌, min, max}
use mathlib.Core.Path.{◌≡◌, refl, ap}
use mathlib.Core.List.{List}
use lib.Ieee.{Float}
use lib.ListN.{length}
use Rattle.num_tables.specs.Parts.{fill, rows_up, rows_down}
use Rattle.osu_records.specs.Fill.{filled, filled_range}
use Rattle.chart_opening.specs.Header.{layout_of, settings_of}
use Rattle.chart_opening.specs.Conditions.{if_accepted}
use Rattle.chart_opening.specs.declared.Settings.{Settings}
use Rattle.chart_opening.specs.declared.Refusal.{Refusal}
use Rattle.chart_opening.specs.Verdict.{Verdict}
use Rattle.chart_replacing.specs.Replace.{put_object, replace_verdict}
use Rattle.chart_inserting.specs.Insert.{insert_object, remove_object, insert_verdict, remove_verdict}
use Rattle.eval_values.specs.Values.{values_in}
use Rattle.calls.specs.Tables.{record_width, value_width, entries_of}
use Rattle.calls.specs.Conditions.{replace, insert, remove, opening, refusal}
use Rattle.calls.specs.Calls.{open_start, open_made, replaced_records, replaced_values, inserted_records, inserted_values, removed_records, removed_values, first_moved, records_start, records_made, values_start, values_made, open_records, open_values, edit_records, edit_values, refused, replaced, inserted, removed, Outcome, state, outcome_with, refuse, opened, open_answer, open_leaves, edited, put_in, taken_out, execute, verdict_in, outcome}
use Rattle.calls.proofs.Alone.{carried_out, refused_as}

-- ---- What the loops leave is what opening and replacing leave

module _ (s : Settings) (b : List ℕ) where
  pub records_opened : (rs : List Float) → open_records s b rs ≡ filled b (layout_of b) s rs
  unfolding open_records open_start open_made filled filled_range
  records_opened rs = refl

  pub values_opened : (rs vs : List Float) → open_values s b rs vs ≡ fill value_width (values_in s b (layout_of b) rs) 1 ((layout_of b).n - 1) vs
  unfolding open_values open_start open_made
  values_opened rs vs = refl

  pub records_edited : (k e : ℕ) (rs : List Float) → edit_records s b k e rs ≡ filled_range b (layout_of b) s (max 1 k) (min e (layout_of b).n) rs
  unfolding edit_records records_start records_made filled_range
  records_edited k e rs = refl

  pub values_edited : (k e : ℕ) (rs vs : List Float)
      → edit_values s b k e rs vs ≡ fill value_width (values_in s b (layout_of b) rs) (max 1 (k - 1)) (min e (layout_of b).n - max 1 (k - 1)) vs
  unfolding edit_values values_start values_made
  values_edited k e rs vs = refl

-- ---- Opening

module _ (b : List ℕ) (rs vs : List Float) where
  pub opening_is : (v : Verdict) → v ≡ opening (length rs) (length vs) b → v ≡ open_answer (state b rs vs)
  unfolding open_answer
  opening_is v e = e

  pub open_refused : (r : Refusal) → opening (length rs) (length vs) b ≡ Err r → open_leaves (state b rs vs) ≡ state b rs vs
  unfolding open_leaves open_answer if_accepted
  open_refused r e = ap (λ (v : Verdict). if_accepted v (opened (state b rs vs)) (λ q. state b rs vs)) e

  pub open_accepted : opening (length rs) (length vs) b ≡ Ok tt → open_leaves (state b rs vs) ≡ opened (state b rs vs)
  unfolding open_leaves open_answer if_accepted
  open_accepted e = ap (λ (v : Verdict). if_accepted v (opened (state b rs vs)) (λ q. state b rs vs)) e

  -- ---- Replacing

  module _ (k : ℕ) (o : List ℕ) where
    pub replace_refused : (r : Refusal) → replace_verdict b k o (entries_of (length rs) (length vs)) ≡ Err r
        → outcome (replace k o) (state b rs vs) ≡ outcome_with (refused r) b rs vs
    unfolding verdict_in refusal refuse
    replace_refused r e = refused_as (replace k o) (state b rs vs) r e

    -- what it leaves of the tables, b' being the chart after it
    abbrev brought : List ℕ → Outcome
    brought b' =
        let rs' = edit_records (settings_of b') b' k (replaced_records k) rs in
        outcome_with replaced b' rs' (edit_values (settings_of b') b' k (replaced_values k) rs' vs)

    pub replace_accepted : replace_verdict b k o (entries_of (length rs) (length vs)) ≡ Ok tt → outcome (replace k o) (state b rs vs) ≡ brought (put_object k o b)
    unfolding verdict_in refusal execute edited
    replace_accepted e = carried_out (replace k o) (state b rs vs) e

  -- ---- Inserting and removing

  module _ (k : ℕ) (o : List ℕ) where
    pub insert_refused : (r : Refusal) → insert_verdict b k o (entries_of (length rs) (length vs)) ≡ Err r
        → outcome (insert k o) (state b rs vs) ≡ outcome_with (refused r) b rs vs
    unfolding verdict_in refusal refuse
    insert_refused r e = refused_as (insert k o) (state b rs vs) r e

    -- what it leaves of the tables, b' being the chart after it
    abbrev put_in_lem : List ℕ → Outcome
    put_in_lem b' =
        let rs' = edit_records (settings_of b') b' k (inserted_records k) (rows_up record_width (first_moved k) (layout_of b).n rs) in
        outcome_with inserted b' rs' (edit_values (settings_of b') b' k (inserted_values k) rs' (rows_up value_width (first_moved k) (layout_of b).n vs))

    pub insert_accepted : insert_verdict b k o (entries_of (length rs) (length vs)) ≡ Ok tt → outcome (insert k o) (state b rs vs) ≡ put_in_lem (insert_object k o b)
    unfolding verdict_in refusal execute put_in
    insert_accepted e = carried_out (insert k o) (state b rs vs) e

  module _ (k : ℕ) where
    pub remove_refused : (r : Refusal) → remove_verdict b k (entries_of (length rs) (length vs)) ≡ Err r → outcome (remove k) (state b rs vs) ≡ outcome_with (refused r) b rs vs
    unfolding verdict_in refusal refuse
    remove_refused r e = refused_as (remove k) (state b rs vs) r e

    abbrev outcome_out : List ℕ → Outcome
    outcome_out b' =
        let rs' = edit_records (settings_of b') b' k (removed_records k) (rows_down record_width (first_moved k) (layout_of b).n rs) in
        outcome_with removed b' rs' (edit_values (settings_of b') b' k (removed_values k) rs' (rows_down value_width (first_moved k) (layout_of b).n vs))

    pub remove_accepted : remove_verdict b k (entries_of (length rs) (length vs)) ≡ Ok tt → outcome (remove k) (state b rs vs) ≡ outcome_out (remove_object k b)
    unfolding verdict_in refusal execute taken_out
    remove_accepted e = carried_out (remove k) (state b rs vs) e
