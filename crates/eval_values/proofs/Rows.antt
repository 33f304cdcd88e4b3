-- A row of the value table, number by number. Assumes nothing.
use Prim.Native.Nat.{ℕ, suc, ◌+◌, ◌*◌, ◌≤◌, ◌<◌}
use mathlib.Core.Path.{◌≡◌, sym, ap, ◌∙◌}
use mathlib.Core.List.{List, [], ◌∷◌}
use native.Mathlib.Omega.{arith}
use lib.Ieee.{Float, nan}
use lib.ListN.{length, get_or, drop}
use lib.Seq.{drop-cons}
use Rattle.num_tables.specs.Parts.{row, part}

module _ (l : List Float) where
  head : (i j : ℕ) → j ≡ suc i → i < length l → drop i l ≡ get_or l i nan ∷ drop j l
  head i j e h = drop-cons l i nan h ∙ ap (λ (k : ℕ). get_or l i nan ∷ drop k l) (sym e)

  pub row_five : (k : ℕ) → 5 * k + 5 ≤ length l
      → row 5 l k ≡ get_or l (5 * k) nan ∷ get_or l (5 * k + 1) nan ∷ get_or l (5 * k + 2) nan ∷ get_or l (5 * k + 3) nan ∷ get_or l (5 * k + 4) nan ∷ []
  unfolding row part
  row_five k h =
      rw (
        head (5 * k) (5 * k + 1) (omega arith) (omega arith),
        head (5 * k + 1) (5 * k + 2) (omega arith) (omega arith),
        head (5 * k + 2) (5 * k + 3) (omega arith) (omega arith),
        head (5 * k + 3) (5 * k + 4) (omega arith) (omega arith),
        head (5 * k + 4) (5 * k + 5) (omega arith) (omega arith),
      )
