-- An object of the chart, from what the calls that read it answer: `fields_of`, `OsuObject::new`, `Runs::from`. Assumes nothing.
use Prim.Native.Nat.{ℕ, ◌<◌}
use mathlib.Core.Path.{◌≡◌, sym, ap, subst, ◌∙◌}
use mathlib.Core.Bool.{true, false}
use mathlib.Core.List.{List}
use Rattle.chart_fields.specs.Objects.{fields_of}
use Rattle.chart_fields.specs.declared.Fields.{Fields}
use Rattle.chart_fields.specs.declared.Layout.{Layout}
use Rattle.osu_object.specs.Osu.{object_of, osu_object, kind_of, runs_of, is_slider, is_spinner, Slides, Ready, nested_list, stacked_pos, stacked_end_pos, repeat_count}
use Rattle.osu_object.specs.Base.{base_of, end_of, repeats_of}
use Rattle.osu_object.specs.declared.OsuObject.{OsuObject}
use Rattle.osu_object.specs.declared.Runs.{Runs}

module _ (s : List ℕ) (lay : Layout) (i : ℕ) (f : Fields) (g : f ≡ fields_of s lay i) (o : OsuObject) (e : o ≡ osu_object f) where
  pub base_is : o ≡ (object_of s lay i).base
  unfolding object_of
  base_is = e ∙ ap osu_object g

  -- a slider of a chart that is ready has its entries in the tables
  pub slides_there : (r : Runs) → r ≡ runs_of f → Ready s lay → i < lay.n → is_slider o.kind ≡ true → Slides s lay r
  unfolding osu_object
  slides_there r k y l h =
      subst (λ (r : Runs). Slides s lay r) (sym (k ∙ ap runs_of g))
      (y.slides i l (sym (ap (λ (o : OsuObject). is_slider o.kind) e ∙ ap (λ (f : Fields). is_slider (kind_of f)) g) ∙ h))

  pub base_from : record { slider = is_slider o.kind; spinner = is_spinner o.kind; start_time = o.start_time; pos = stacked_pos o } ≡ base_of (object_of s lay i)
  unfolding base_of object_of
  base_from = simp (e, g)

  pub end_from : (r : Runs) → r ≡ runs_of f → stacked_end_pos o (nested_list s lay r) ≡ end_of (object_of s lay i)
  unfolding object_of
  end_from r k = simp (k, e, g)

  pub repeats_from : (r : Runs) → r ≡ runs_of f → is_slider o.kind ≡ true → repeat_count (nested_list s lay r) ≡ repeats_of (object_of s lay i)
  unfolding repeats_of object_of
  repeats_from r k h = simp (← g, ← e, h, k)

  pub repeats_none : is_slider o.kind ≡ false → 0 ≡ repeats_of (object_of s lay i)
  unfolding repeats_of object_of
  repeats_none h = simp (← g, ← e, h)
