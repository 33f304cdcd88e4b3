-- What an accepted insertion or removal tells (`inserted`, `removed` of proofs/Accepted.antt): of its arguments, and that the new chart opens as the old one did. Assumes nothing.
use Rattle.std.specs.Prelude.{ℕ, ◌≤◌, ◌<◌, ◌≡◌, false, List, length}
use Rattle.chart_opening.specs.Header.{layout_of}
use Rattle.chart_opening.specs.Conditions.{Opens}
use Rattle.chart_inserting.specs.Insert.{insert_object, remove_object, no_room}

-- ---- Insertion

pub record Inserted (s : List ℕ) (place : ℕ) (object : List ℕ) : Type 0 where
  pub opens : Opens s
  pub at : place ≤ (layout_of s).n
  pub room : no_room s ≡ false
  pub long : length object ≡ (layout_of s).object_size
  pub becomes : Opens (insert_object place object s)

-- ---- Removal

pub record Removed (s : List ℕ) (place : ℕ) : Type 0 where
  pub opens : Opens s
  pub below : place < (layout_of s).n
  pub becomes : Opens (remove_object place s)
