-- An object of the chart, from what the calls of `placed_at` answer. Assumes nothing.
use Prim.Native.Nat.{ℕ}
use mathlib.Core.Path.{◌≡◌, sym, ap, ◌∙◌}
use mathlib.Core.List.{List}
use lib.Ieee.{Float}
use Rattle.chart_fields.specs.Objects.{fields_of}
use Rattle.chart_fields.specs.declared.Fields.{Fields}
use Rattle.chart_fields.specs.declared.Layout.{Layout}
use Rattle.osu_pos.specs.declared.Pos.{Pos}
use Rattle.osu_object.specs.Osu.{Object, object_of, osu_object, runs_of, nested_list, point_list, tail_of, repeat_count}
use Rattle.osu_object.specs.declared.OsuObject.{OsuObject}
use Rattle.osu_object.specs.declared.Runs.{Runs}
use Rattle.osu_object.specs.declared.OsuObjectKind.{OsuObjectKind}
use Rattle.osu_object.specs.declared.OsuObjectKind.TheVariants.{Circle, Spinner, Slider}
use Rattle.osu_object.proofs.Reading.{base_is}
use Rattle.osu_difficulty_object.specs.Cursor.{slider_cursor}
use Rattle.osu_difficulty_object.specs.Record.{plain_of, slid_of, placed_by, placed_of}
use Rattle.osu_difficulty_object.specs.declared.cursor.Cursor.{Cursor}

placed_by_lem : (radius : Float) (o : Object) (k : OsuObjectKind) → o.base.kind ≡ k → placed_of radius o ≡ placed_by k radius o
unfolding placed_of
placed_by_lem radius o k e = ap (λ (k : OsuObjectKind). placed_by k radius o) e

module _ (s : List ℕ) (lay : Layout) (i : ℕ) (f : Fields) (g : f ≡ fields_of s lay i) (base : OsuObject) (e : base ≡ osu_object f) (radius : Float) where
  kind_there : (k : OsuObjectKind) → base.kind ≡ k → placed_of radius (object_of s lay i) ≡ placed_by k radius (object_of s lay i)
  kind_there k h = placed_by_lem radius (object_of s lay i) k (sym (ap (λ (o : OsuObject). o.kind) (base_is s lay i f g base e)) ∙ h)

  pub placed_circle : base.kind ≡ Circle → plain_of base ≡ placed_of radius (object_of s lay i)
  placed_circle h = ap plain_of (base_is s lay i f g base e) ∙ sym (kind_there Circle h)

  pub placed_spinner : base.kind ≡ Spinner → plain_of base ≡ placed_of radius (object_of s lay i)
  placed_spinner h = ap plain_of (base_is s lay i f g base e) ∙ sym (kind_there Spinner h)

  module _ (r : Runs) (k : r ≡ runs_of f) (end spans : Float) (h : base.kind ≡ Slider end spans) where
    slid-is :
        record { base = base; cursor = slider_cursor base end spans (nested_list s lay r) (point_list s lay r) radius; tail = tail_of (nested_list s lay r); repeats = repeat_count (nested_list s lay r) }
        ≡ slid_of radius (object_of s lay i) end spans
    unfolding slid_of object_of
    slid-is = simp (k, e, g)

    pub placed_slider : (cursor : Cursor) (tail : Pos) (repeats : ℕ)
        → cursor ≡ slider_cursor base end spans (nested_list s lay r) (point_list s lay r) radius
        → tail ≡ tail_of (nested_list s lay r) → repeats ≡ repeat_count (nested_list s lay r)
        → record { base = base; cursor = cursor; tail = tail; repeats = repeats } ≡ placed_of radius (object_of s lay i)
    placed_slider cursor tail repeats a b c = simp (a, b, c) slid-is ∙ sym (kind_there (Slider end spans) h)
