-- Conditions 3, 4 and 5 at the places that two charts share of which one has an object more. Assumes nothing.
use Prim.Native.Nat.{ℕ, suc, ◌-◌, ◌≤◌, ◌<◌}
use mathlib.Core.Path.{◌≡◌, sym, ◌∙◌}
use mathlib.Core.List.{List}
use lib.Dec.{ltb}
use native.Mathlib.Omega.{arith}
use borrow.Author.Tests.{lt-ltb}
use Rattle.chart_fields.specs.Objects.{fields_of, bad_fields, falls}
use Rattle.chart_fields.specs.declared.Fields.{Fields}
use Rattle.chart_entries.specs.Entries.{wrong_entries, bad_entries}
use Rattle.chart_entries.specs.Same.{wrong_below}
use Rattle.chart_opening.specs.Header.{layout_of}
use Rattle.chart_inserting.specs.OneMore.{OneMore}
use Rattle.chart_inserting.specs.Widened.{same_entries}

module _ {k : ℕ} {s t : List ℕ} (o : OneMore k s t) where
  pub wrong : (f : Fields) → wrong_entries t (layout_of t) f ≡ wrong_entries s (layout_of s) f
  wrong f = wrong_below (same_entries o) f

  pub fields_before : (j : ℕ) → j < k → bad_fields t (layout_of t) j ≡ bad_fields s (layout_of s) j
  unfolding bad_fields
  fields_before j l = cc (o.fields_before j l)

  pub fields_later : (j : ℕ) → k ≤ j → j < (layout_of s).n → bad_fields t (layout_of t) (suc j) ≡ bad_fields s (layout_of s) j
  unfolding bad_fields
  fields_later j l m = cc (o.fields_later j l m)

  pub entries_before : (j : ℕ) → j < k → bad_entries t (layout_of t) j ≡ bad_entries s (layout_of s) j
  unfolding bad_entries
  entries_before j l = rw (o.fields_before j l) (wrong (fields_of s (layout_of s) j))

  pub entries_later : (j : ℕ) → k ≤ j → j < (layout_of s).n → bad_entries t (layout_of t) (suc j) ≡ bad_entries s (layout_of s) j
  unfolding bad_entries
  entries_later j l m = rw (o.fields_later j l m) (wrong (fields_of s (layout_of s) j))

  pub falls_before : (j : ℕ) → j < k → falls t (layout_of t) j ≡ falls s (layout_of s) j
  unfolding falls
  falls_before j l = cc (o.fields_before j l, o.fields_before (j - 1) (omega arith))

  pub falls_later : (j : ℕ) → k < j → j < (layout_of s).n → falls t (layout_of t) (suc j) ≡ falls s (layout_of s) j
  unfolding falls
  falls_later j l m =
      let p : suc j - 1 ≡ suc (j - 1) = omega arith in
      let z : ltb 0 (suc j) ≡ ltb 0 j = lt-ltb 0 (suc j) (omega arith) ∙ sym (lt-ltb 0 j (omega arith)) in
      cc (o.fields_later j (omega arith) m, o.fields_later (j - 1) (omega arith) (omega arith))
