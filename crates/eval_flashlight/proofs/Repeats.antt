-- A slider has no more repeats than nested entries, and those are few. Assumes nothing.
use Prim.Native.Nat.{ℕ, zero, suc, ◌+◌, ◌≤◌, ◌<◌}
use native.Mathlib.Omega.{arith}
use mathlib.Core.Path.{◌≡◌, refl}
use mathlib.Core.Bool.{Bool, true, false, cond}
use mathlib.Core.List.{List}
use lib.ListN.{length}
use Rattle.chart_fields.specs.Objects.{fields_of}
use Rattle.chart_fields.specs.declared.Layout.{Layout}
use Rattle.chart_entries.specs.Entries.{nested_of}
use Rattle.chart_entries.specs.declared.Nested.{Nested}
use Rattle.osu_object.specs.Osu.{Ready, object_of, osu_object, runs_of, kind_of, is_slider, is_repeat, count_below, repeat_count}
use Rattle.osu_object.specs.Base.{repeats_of}
use Rattle.osu_object.proofs.Lists.{length_list}

count-le : (test : ℕ → Bool) (k : ℕ) → count_below test k ≤ k
unfolding count_below
count-le test zero = omega arith
count-le test (suc k) = go (test k) (count-le test k)
  where
    go : (b : Bool) → count_below test k ≤ k → cond b 1 0 + count_below test k ≤ suc k
    go true h = omega arith
    go false h = omega arith

repeat_le : (ns : List Nested) → repeat_count ns ≤ length ns
unfolding repeat_count
repeat_le ns = count-le (is_repeat ns) (length ns)

pub repeats_few : (s : List ℕ) (lay : Layout) (j : ℕ) → Ready s lay → j < lay.n → repeats_of (object_of s lay j) ≤ 65536
unfolding repeats_of object_of osu_object runs_of
repeats_few s lay j y l = go (is_slider (kind_of (fields_of s lay j))) refl
  where
    go : (b : Bool) → is_slider (kind_of (fields_of s lay j)) ≡ b → cond b (repeat_count (object_of s lay j).nested) 0 ≤ 65536
    go true e = omega (
      arith,
      y.holds.few_nested,
      (y.slides j l e).nested_in_lem,
      repeat_le (object_of s lay j).nested,
      length_list (nested_of s lay) (fields_of s lay j).first_nested (fields_of s lay j).nested_count,
    )
    go false e = omega arith
