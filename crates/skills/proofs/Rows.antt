-- An element of a row is one of the table. Assumes nothing.
use Prim.Native.Nat.{ℕ, ◌+◌, ◌*◌, ◌<◌}
use mathlib.Core.Path.{◌≡◌, ◌∙◌}
use mathlib.Core.List.{List}
use lib.ListN.{drop, get_or}
use lib.Seq.{get_or-take, get_or-drop}
use Rattle.num_tables.specs.Parts.{part, row}

pub row_at : {X : Type 0} (w j c : ℕ) (t : List X) (d : X) → c < w → get_or (row w t j) c d ≡ get_or t (w * j + c) d
unfolding row part
row_at w j c t d h = get_or-take w (drop (w * j) t) c d h ∙ get_or-drop (w * j) t c d
