-- A detail, from what the functions that work it out ensure. Assumes nothing.
use Prim.Native.Nat.{ℕ, ◌-◌, ◌*◌, ◌≤◌, ◌<◌}
use mathlib.Core.Path.{◌≡◌, sym, ap, ◌∙◌, subst}
use mathlib.Core.Bool.{Bool, true, false}
use mathlib.Core.List.{List}
use lib.Ieee.{Float}
use Rattle.chart_fields.specs.Objects.{Holds}
use Rattle.chart_fields.specs.declared.Layout.{Layout}
use Rattle.chart_opening.specs.Header.{layout_of, settings_of}
use Rattle.chart_opening.specs.declared.Settings.{Settings}
use Rattle.chart_opening.proofs.Header.{framed, holds_framed}
use Rattle.osu_object.specs.Osu.{object_of}
use Rattle.osu_records.specs.Rows.{record_at}
use Rattle.osu_records.specs.Sight.{view_of}
use Rattle.eval_aim.specs.Aim.{combine_of, parts_at_place, aim_at_place}
use Rattle.eval_aim.specs.declared.AimParts.{AimParts}
use Rattle.eval_aim.proofs.Value.{aim_combine}
use Rattle.eval_rhythm.specs.Rhythm.{rhythm_at_place}
use Rattle.eval_rhythm.specs.Comparisons.{comparisons_at_place}
use Rattle.eval_values.specs.Values.{reach_of}
use Rattle.calls.specs.Tables.{record_width}
use Rattle.calls.specs.Afresh.{object, aim_parts, rhythm, aim_is, rhythm_is, detail_of, detail_from}
use Rattle.calls_readings.specs.Answers.{InTable}

-- what the evaluators ask of the chart, by its layout
pub placed : (b : List ℕ) (lay : Layout) (r j : ℕ) → lay ≡ layout_of b → InTable b r j
    → Holds b lay × (1 ≤ j) × (j < lay.n) × (record_width * lay.n ≤ r)
placed b lay r j e t =
    subst (λ (l : Layout). Holds b l × (1 ≤ j) × (j < l.n) × (record_width * l.n ≤ r)) (sym e) (holds_framed b (framed b t.frame), t.one, t.below, t.room)

module _ (b : List ℕ) (lay : Layout) (rs : List Float) (j : ℕ) (l : lay ≡ layout_of b) where
  parts_by : (p : AimParts) (sliders : Bool) → p ≡ parts_at_place (object_of b lay) (record_at rs) j sliders → p ≡ parts_at_place (object b) (record_at rs) j sliders
  parts_by p sliders h = h ∙ ap (λ (lay : Layout). parts_at_place (object_of b lay) (record_at rs) j sliders) l

  value_by : (p : AimParts) (x : Float) (sliders : Bool) → p ≡ parts_at_place (object_of b lay) (record_at rs) j sliders → x ≡ combine_of p sliders
      → x ≡ aim_at_place (object b) (record_at rs) j sliders
  value_by p x sliders h e =
      e ∙ (ap (λ (p : AimParts). combine_of p sliders) (parts_by p sliders h) ∙ aim_combine (view_of (object b) (record_at rs) j) (j - 1) sliders)

  -- the value is what the parts put together come to
  pub aim_found : (p q : AimParts) (x y : Float)
      → p ≡ parts_at_place (object_of b lay) (record_at rs) j true → q ≡ parts_at_place (object_of b lay) (record_at rs) j false
      → x ≡ combine_of p true → y ≡ combine_of q false → aim_is x p y q ≡ detail_from aim_parts (settings_of b) b rs j
  unfolding detail_of
  aim_found p q x y hp hq hx hy = λ t. aim_is (value_by p x true hp hx t) (parts_by p true hp t) (value_by q y false hq hy t) (parts_by q false hq t)

  pub rhythm_found : (s : Settings) (x : Float) (n : ℕ)
      → x ≡ rhythm_at_place (object_of b lay) (record_at rs) (reach_of lay.n j) j s.hit_window
      → n ≡ comparisons_at_place (object_of b lay) (record_at rs) j s.hit_window
      → rhythm_is x n ≡ detail_from rhythm s b rs j
  unfolding detail_of
  rhythm_found s x n hx hn =
      (λ t. rhythm_is (hx t) (hn t))
      ∙ (λ t. rhythm_is (rhythm_at_place (object_of b (l t)) (record_at rs) (reach_of (l t).n j) j s.hit_window)
      (comparisons_at_place (object_of b (l t)) (record_at rs) j s.hit_window))
