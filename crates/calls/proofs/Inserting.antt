-- Insertion and removal: chart b' is chart b with one object more, at place k. Tables whose rows before k stay, whose rows about k
-- are made anew and whose later rows move by one place are fresh again. Which bytes and loops bring this about is left open. Assumes nothing.
use mathlib.Core.Path.{◌≡◌, sym, ap, ◌∙◌, subst⁻¹}
use mathlib.Core.List.{List}
use Prim.Native.Nat.{ℕ, suc, ◌+◌, ◌-◌, ◌≤◌, ◌<◌, min, max}
use native.Mathlib.Omega.{arith}
use native.Mathlib.Decide.{dec_lt}
use lib.Ieee.{Float}
use Rattle.num_tables.specs.Parts.{row}
use Rattle.chart_opening.specs.declared.Settings.{Settings}
use Rattle.osu_difficulty_object.specs.Record.{record_of, chart_record}
use Rattle.osu_records.specs.Rows.{row_of}
use Rattle.eval_values.specs.Values.{reach_of, values_of}
use Rattle.eval_values.proofs.Local.{values_moves}
use Rattle.calls.specs.Tables.{record_width, value_width}
use Rattle.calls.specs.Afresh.{count, object, fresh_record, fresh_row, fresh_values, values_from}
use Rattle.calls.specs.Calls.{state}
use Rattle.calls.specs.Statement.{Fresh}
use Rattle.calls.proofs.Locality.{start_same, delta_same, row_local, reach_at, value_local, value_from}

next_minus : (m j : ℕ) → m ≤ j → suc j - m ≡ suc (j - m)
next_minus m j h = omega arith

module _
    (s : Settings) (k : ℕ) (b b' : List ℕ)
    (counts : count b' ≡ suc (count b)) (at : k ≤ count b)
    (before : (i : ℕ) → i < k → object b' i ≡ object b i)
    (later : (i : ℕ) → k ≤ i → i < count b → object b' (suc i) ≡ object b i)
  where
    -- object i of the new chart, i past k, by its own number
    later_at : (i i' : ℕ) → i' ≡ suc i → k ≤ i → i < count b → object b' i' ≡ object b i
    later_at i i' e h q = ap (object b') e ∙ later i h q

    pub record_moved : (j : ℕ) → k + 2 ≤ j → 3 ≤ j → j < count b → fresh_record s b' (suc j) ≡ fresh_record s b j
    unfolding chart_record
    record_moved j h t q =
        let e : min (suc j) 3 ≡ min j 3 = omega arith in
        λ i. record_of s (e i) (later j (omega arith) q i)
        (later_at (j - 1) (suc j - 1) (next_minus 1 j (omega arith)) (omega arith) (omega arith) i)
        (later_at (j - 2) (suc j - 2) (next_minus 2 j (omega arith)) (omega arith) (omega arith) i)

    row_moved : (j : ℕ) → k + 2 ≤ j → 3 ≤ j → j < count b → fresh_row s b' (suc j) ≡ fresh_row s b j
    row_moved j h t q = ap row_of (record_moved j h t q)

    start_moved : (j : ℕ) → k + 1 ≤ j → j < count b → (fresh_record s b' (suc j)).start_time ≡ (fresh_record s b j).start_time
    start_moved j h q = start_same s b' b (suc j) j (later j (omega arith) q)

    delta_moved : (j : ℕ) → k + 1 ≤ j → 1 ≤ j → j < count b → (fresh_record s b' (suc j)).delta_time ≡ (fresh_record s b j).delta_time
    delta_moved j h t q =
        delta_same s b' b (suc j) j (later_at (j - 1) (suc j - 1) (next_minus 1 j (omega arith)) (omega arith) (omega arith)) (later j (omega arith) q)

    reach_moved : (j : ℕ) → j < count b → reach_of (count b') (suc j) ≡ suc (reach_of (count b) j)
    reach_moved j q = omega arith

    pub value_moved : (j : ℕ) → k + 33 ≤ j → j < count b → fresh_values s b' (suc j) ≡ fresh_values s b j
    unfolding fresh_values
    value_moved j h q =
        let r : (j ≤ reach_of (count b) j) × (reach_of (count b) j ≤ j + 1) × (reach_of (count b) j < count b) = reach_at b j q in
        (λ i. values_of s (reach_moved j q i) (object b') (λ m. fresh_record s b' m) (suc j))
        ∙ values_moves s (reach_of (count b) j) (object b) (object b') (λ m. fresh_record s b m) (λ m. fresh_record s b' m) j (omega arith) r.0
        (λ i x y. later i (omega arith) (omega arith))
        (λ i x y z. record_moved i (omega arith) (omega arith) (omega arith))
        (λ i x y z. start_moved i (omega arith) (omega arith))
        (λ i x y z. delta_moved i (omega arith) x (omega arith))

    reach_kept : (j : ℕ) → j + 1 < k → reach_of (count b) j ≡ reach_of (count b') j
    reach_kept j h = omega arith

    pub record_same : (j : ℕ) → j < k → fresh_row s b j ≡ fresh_row s b' j
    record_same j h = row_local s b b' j (λ i y z. sym (before i (omega arith)))

    pub value_same : (j : ℕ) → 1 ≤ j → j + 1 < k → fresh_values s b j ≡ fresh_values s b' j
    value_same j p h =
        value_local s b b' j p (omega arith) (reach_kept j h) (λ i y z. sym (before i (omega (arith, reach_at b j (omega arith)))))

    -- Insertion: b becomes b'. Record 3 is made anew too, even for k = 0: only from place 3 on can a record have an angle.
    module _ (rs vs rs' vs' : List Float) (f : Fresh s (state b rs vs))
        (record_kept : (j : ℕ) → 1 ≤ j → j < k → row record_width rs' j ≡ row record_width rs j)
        (record-made : (j : ℕ) → 1 ≤ j → j < count b' → k ≤ j → j ≤ max (k + 2) 3 → row record_width rs' j ≡ fresh_row s b' j)
        (record-up : (j : ℕ) → max (k + 2) 3 ≤ j → j < count b → row record_width rs' (suc j) ≡ row record_width rs j)
        (value_kept : (j : ℕ) → 1 ≤ j → j + 1 < k → row value_width vs' j ≡ row value_width vs j)
        (value_made : (j : ℕ) → 1 ≤ j → j < count b' → k ≤ j + 1 → j ≤ k + 33 → row value_width vs' j ≡ values_from s b' rs' j)
        (value-up : (j : ℕ) → k + 33 ≤ j → j < count b → row value_width vs' (suc j) ≡ row value_width vs j)
      where
        inserted_record : (j : ℕ) → 1 ≤ j → j < count b' → row record_width rs' j ≡ fresh_row s b' j
        inserted_record j p q = go (dec_lt j k) (dec_lt (max (k + 2) 3) j)
          where
            go : Dec (j < k) → Dec (max (k + 2) 3 < j) → row record_width rs' j ≡ fresh_row s b' j
            go (yes x) d =
                record_kept j p x ∙ (f.records j p (omega arith) ∙ record_same j x)
            go (no x) (yes y) =
                let e : j ≡ suc (j - 1) = omega arith in
                subst⁻¹ (λ (i : ℕ). row record_width rs' i ≡ fresh_row s b' i) e
                (record-up (j - 1) (omega arith) (omega arith) ∙ (f.records (j - 1) (omega arith) (omega arith) ∙ sym (row_moved (j - 1) (omega arith) (omega arith) (omega arith))))
            go (no x) (no y) = record-made j p q (omega arith) (omega arith)

        inserted_value : (j : ℕ) → 1 ≤ j → j < count b' → row value_width vs' j ≡ fresh_values s b' j
        inserted_value j p q = go (dec_lt (j + 1) k) (dec_lt (k + 33) j)
          where
            go : Dec (j + 1 < k) → Dec (k + 33 < j) → row value_width vs' j ≡ fresh_values s b' j
            go (yes x) d =
                value_kept j p x ∙ (f.values j p (omega arith) ∙ value_same j p x)
            go (no x) (yes y) =
                let e : j ≡ suc (j - 1) = omega arith in
                subst⁻¹ (λ (i : ℕ). row value_width vs' i ≡ fresh_values s b' i) e
                (value-up (j - 1) (omega arith) (omega arith) ∙ (f.values (j - 1) (omega arith) (omega arith) ∙ sym (value_moved (j - 1) (omega arith) (omega arith))))
            go (no x) (no y) = value_made j p q (omega arith) (omega arith) ∙ value_from s b' rs' j p q inserted_record

        pub inserted_fresh : Fresh s (state b' rs' vs')
        inserted_fresh = record { records = inserted_record; values = inserted_value }

    -- Removal: b' becomes b
    module _ (rs vs rs' vs' : List Float) (f : Fresh s (state b' rs' vs'))
        (record_kept : (j : ℕ) → 1 ≤ j → j < k → row record_width rs j ≡ row record_width rs' j)
        (record-made : (j : ℕ) → 1 ≤ j → j < count b → k ≤ j → j < max (k + 2) 3 → row record_width rs j ≡ fresh_row s b j)
        (record-down : (j : ℕ) → max (k + 2) 3 ≤ j → j < count b → row record_width rs j ≡ row record_width rs' (suc j))
        (value_kept : (j : ℕ) → 1 ≤ j → j + 1 < k → row value_width vs j ≡ row value_width vs' j)
        (value_made : (j : ℕ) → 1 ≤ j → j < count b → k ≤ j + 1 → j < k + 33 → row value_width vs j ≡ values_from s b rs j)
        (value-down : (j : ℕ) → k + 33 ≤ j → j < count b → row value_width vs j ≡ row value_width vs' (suc j))
      where
        removed_record : (j : ℕ) → 1 ≤ j → j < count b → row record_width rs j ≡ fresh_row s b j
        removed_record j p q = go (dec_lt j k) (dec_lt j (max (k + 2) 3))
          where
            go : Dec (j < k) → Dec (j < max (k + 2) 3) → row record_width rs j ≡ fresh_row s b j
            go (yes x) d = record_kept j p x ∙ (f.records j p (omega arith) ∙ sym (record_same j x))
            go (no x) (yes y) = record-made j p q (omega arith) y
            go (no x) (no y) =
                record-down j (omega arith) q ∙ (f.records (suc j) (omega arith) (omega arith) ∙ row_moved j (omega arith) (omega arith) q)

        removed_value : (j : ℕ) → 1 ≤ j → j < count b → row value_width vs j ≡ fresh_values s b j
        removed_value j p q = go (dec_lt (j + 1) k) (dec_lt j (k + 33))
          where
            go : Dec (j + 1 < k) → Dec (j < k + 33) → row value_width vs j ≡ fresh_values s b j
            go (yes x) d = value_kept j p x ∙ (f.values j p (omega arith) ∙ sym (value_same j p x))
            go (no x) (yes y) = value_made j p q (omega arith) y ∙ value_from s b rs j p q removed_record
            go (no x) (no y) = value-down j (omega arith) q ∙ (f.values (suc j) (omega arith) (omega arith) ∙ value_moved j (omega arith) q)

        pub removed_fresh : Fresh s (state b rs vs)
        removed_fresh = record { records = removed_record; values = removed_value }
