-- Charts of which one has an object more than the other hold the same objects but for that one. Assumes nothing.
use mathlib.Core.Path.{◌≡◌, ap, ◌∙◌}
use mathlib.Core.List.{List}
use Prim.Native.Nat.{ℕ, suc, ◌+◌, ◌≤◌, ◌<◌}
use mathlib.Core.Bool.{true}
use lib.ListN.{length, drop}
use native.Mathlib.Omega.{arith}
use Rattle.chart_fields.specs.Objects.{fields_of}
use Rattle.chart_fields.specs.declared.Fields.{Fields}
use Rattle.chart_entries.specs.Entries.{nested_of, point_of}
use Rattle.chart_opening.specs.Header.{layout_of, header_ok, settings_of, chart_length}
use Rattle.chart_opening.specs.Conditions.{Opens}
use Rattle.chart_opening.specs.Accepted.{header_ok_lem, clean_body, body_ok}
use Rattle.chart_replacing.specs.Replace.{object_bytes}
use Rattle.chart_inserting.specs.Insert.{insert_object, remove_object}
use Rattle.chart_inserting.specs.OneMore.{OneMore}
use Rattle.chart_inserting.specs.Inserted as I
use Rattle.chart_inserting.specs.Removed as R
use Rattle.chart_inserting.specs.Accepted.{Inserted, Removed}
use Rattle.osu_object.specs.Osu.{osu_object}
use Rattle.osu_object.proofs.Alike as Same
use Rattle.osu_object.proofs.Checked.{Within, entries_within}
use Rattle.calls.specs.Afresh.{count, object}

-- ---- What an accepted insertion or removal makes of the chart

module _ (b : List ℕ) (k : ℕ) (o : List ℕ) (a : Inserted b k o) where
  held_in : header_ok b ≡ true
  held_in = header_ok_lem b a.opens

  pub inserted_more : OneMore k b (insert_object k o b)
  inserted_more = I.one_more b k o held_in a.at a.room a.long

  pub inserted_object : object_bytes (insert_object k o b) k ≡ o
  inserted_object = I.place_put b k o held_in a.at a.room a.long

  pub inserted_keeps : (length (insert_object k o b) ≡ length b) × (drop (chart_length (insert_object k o b)) (insert_object k o b) ≡ drop (chart_length (insert_object k o b)) b)
  inserted_keeps = (I.keeps-length b k o held_in a.at a.room a.long, I.rest b k o held_in a.at a.room a.long)

module _ (b : List ℕ) (k : ℕ) (a : Removed b k) where
  held_out : header_ok b ≡ true
  held_out = header_ok_lem b a.opens

  pub removed_more : OneMore k (remove_object k b) b
  removed_more = R.one_more b k held_out a.below

  pub removed_keeps : (length (remove_object k b) ≡ length b) × (drop (chart_length (remove_object k b)) (remove_object k b) ≡ drop (chart_length (remove_object k b)) b)
  removed_keeps = (R.keeps-length b k held_out a.below, R.rest b k held_out a.below)

-- ---- The objects

-- the entries of an object of a chart that opens
within : (b : List ℕ) → Opens b → (i : ℕ) → i < count b → Within (layout_of b) (fields_of b (layout_of b) i)
within b o i h =
    let c = clean_body b (layout_of b) (settings_of b).clock_rate (body_ok b o) in
    entries_within b (layout_of b) i (c.fields i h) (c.entries i h)

module _ (k : ℕ) (b b' : List ℕ) (m : OneMore k b b') (o : Opens b) where
  -- object i of b, which stands at i' in b'
  moved_object : (i i' : ℕ) → i < count b → fields_of b' (layout_of b') i' ≡ fields_of b (layout_of b) i → object b' i' ≡ object b i
  moved_object i i' h e =
      let w = within b o i h in
      Same.object_same b' (layout_of b') i' b (layout_of b) i (record {
        base = ap osu_object e;
        nested_count_lem = ap (λ (f : Fields). f.nested_count) e;
        point_count_lem = ap (λ (f : Fields). f.point_count) e;
        nested = λ c l.
            let n = ap (λ (f : Fields). f.nested_count) e in
            ap (λ (f : Fields). nested_of b' (layout_of b') (f.first_nested + c)) e ∙ m.nested ((fields_of b (layout_of b) i).first_nested + c) (omega (arith, w.nested, n, l));
        points = λ c l.
            let n = ap (λ (f : Fields). f.point_count) e in
            ap (λ (f : Fields). point_of b' (layout_of b') (f.first_point + c)) e ∙ m.points ((fields_of b (layout_of b) i).first_point + c) (omega (arith, w.points, n, l));
      })

  pub object_before : (i : ℕ) → i < k → object b' i ≡ object b i
  object_before i h = moved_object i i (omega (arith, m.at)) (m.fields_before i h)

  pub object_later : (i : ℕ) → k ≤ i → i < count b → object b' (suc i) ≡ object b i
  object_later i h q = moved_object i (suc i) q (m.fields_later i h q)
