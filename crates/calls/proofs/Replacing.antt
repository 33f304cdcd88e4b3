-- A chart with an object put at a place: N, the settings and the other objects are as they were. Assumes nothing.
use mathlib.Core.Path.{◌≡◌, ap, ◌∙◌}
use mathlib.Core.List.{List}
use Prim.Native.Nat.{ℕ, ◌+◌}
use native.Mathlib.Omega.{arith}
use lib.ListN.{length, drop}
use Rattle.chart_fields.specs.Objects.{Holds, fields_of}
use Rattle.chart_fields.specs.declared.Fields.{Fields}
use Rattle.chart_fields.specs.declared.Layout.{Layout}
use Rattle.chart_entries.specs.Entries.{nested_of, point_of}
use Rattle.chart_entries.specs.Same.{SameEntries}
use Rattle.chart_opening.specs.Header.{layout_of, settings_of, chart_length, layout_end}
use Rattle.chart_opening.specs.Accepted.{header_ok_lem}
use Rattle.chart_opening.proofs.Header.{parts, offsets, holds}
use Rattle.chart_replacing.specs.Replace.{put_object}
use Rattle.chart_replacing.specs.Accepted.{Taken}
use Rattle.chart_replacing.specs.Replaced as R
use Rattle.osu_object.specs.Osu.{object_of, osu_object}
use Rattle.osu_object.proofs.Alike as Same
use Rattle.calls.specs.Afresh.{count, object}
use Rattle.calls.proofs.Front.{later_drop}

-- an object is read from its fields and the entries that they name
objects_same : (a b : List ℕ) (lay : Layout) (j : ℕ) → fields_of a lay j ≡ fields_of b lay j → SameEntries a b lay → object_of a lay j ≡ object_of b lay j
objects_same a b lay j fields entries =
    Same.object_same a lay j b lay j (record {
      base = ap osu_object fields;
      nested_count_lem = ap (λ (f : Fields). f.nested_count) fields;
      point_count_lem = ap (λ (f : Fields). f.point_count) fields;
      nested = λ k h. entries.nested ((fields_of a lay j).first_nested + k) ∙ ap (λ (f : Fields). nested_of b lay (f.first_nested + k)) fields;
      points = λ k h. entries.points ((fields_of a lay j).first_point + k) ∙ ap (λ (f : Fields). point_of b lay (f.first_point + k)) fields;
    })

module _ (k : ℕ) (o b : List ℕ) (t : Taken b k o) where
  held : Holds b (layout_of b)
  held = holds b (header_ok_lem b t.opens)

  pub layout_same : layout_of (put_object k o b) ≡ layout_of b
  layout_same = R.layout b k o held t.below t.long

  pub count_same : count (put_object k o b) ≡ count b
  count_same = ap (λ (lay : Layout). lay.n) layout_same

  pub settings_same : settings_of (put_object k o b) ≡ settings_of b
  settings_same = R.settings b k o held t.below t.long

  pub object_same : (j : ℕ) → (j ≡ k → ⊥) → object (put_object k o b) j ≡ object b j
  object_same j d =
      ap (λ (lay : Layout). object_of (put_object k o b) lay j) layout_same
      ∙ objects_same (put_object k o b) b (layout_of b) j (R.elsewhere b k o held t.below t.long j d) (R.entries b k o held t.below t.long)

  -- the buffer's length, and the bytes past the chart's
  pub put_keeps : (length (put_object k o b) ≡ length b) × (drop (chart_length (put_object k o b)) (put_object k o b) ≡ drop (chart_length (put_object k o b)) b)
  put_keeps =
      let b' = put_object k o b in
      let ends : chart_length b' ≡ layout_end (layout_of b) = (offsets b' (layout_of b') (parts b' (header_ok_lem b' t.becomes)).offsets).ends ∙ ap layout_end layout_same in
      (R.keeps-length b k o held t.below t.long, later_drop (layout_of b).nested_at (chart_length b') b' b (omega (arith, ends, held.nested_in_lem)) (R.rest_kept b k o held t.below t.long))
