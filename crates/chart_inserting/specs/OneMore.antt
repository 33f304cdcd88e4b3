-- Two charts of which one has one object more than the other, at place k, and else the same: what an insertion and a removal have in common. Definitions only.
use Rattle.std.specs.Prelude.{ℕ, suc, ◌+◌, ◌*◌, ◌≤◌, ◌<◌, ◌≡◌, List}
use Rattle.num_tables.specs.Parts.{part}
use Rattle.chart_fields.specs.Limits.{nested_size, point_size}
use Rattle.chart_fields.specs.Objects.{fields_of}
use Rattle.chart_entries.specs.Entries.{nested_of, point_of}
use Rattle.chart_opening.specs.Header.{layout_of, settings_of}
use Rattle.chart_replacing.specs.Replace.{object_bytes}

-- the bytes of a chart's nested entries and points
unfoldable pub entry_bytes : List ℕ → List ℕ
entry_bytes s = part (layout_of s).nested_at (nested_size * (layout_of s).nested + point_size * (layout_of s).points) s

-- the header without what follows from N: the counts and the first offset, the word at 28 and the settings
unfoldable pub count_bytes : List ℕ → List ℕ
count_bytes s = part 4 12 s

unfoldable pub setting_bytes : List ℕ → List ℕ
setting_bytes s = part 28 52 s

-- s' is s with one object more, at place k
pub record OneMore (k : ℕ) (s s' : List ℕ) : Type 0 where
  pub at : k ≤ (layout_of s).n
  pub counts : (layout_of s').n ≡ suc (layout_of s).n
  pub sizes : (layout_of s').object_size ≡ (layout_of s).object_size
  pub nested_counts : (layout_of s').nested ≡ (layout_of s).nested
  pub point_counts : (layout_of s').points ≡ (layout_of s).points
  pub settings : settings_of s' ≡ settings_of s
  -- bytes
  pub count_bytes_lem : count_bytes s' ≡ count_bytes s
  pub setting_bytes_lem : setting_bytes s' ≡ setting_bytes s
  pub entry_bytes_lem : entry_bytes s' ≡ entry_bytes s
  pub before : (i : ℕ) → i < k → object_bytes s' i ≡ object_bytes s i
  pub later : (i : ℕ) → k ≤ i → i < (layout_of s).n → object_bytes s' (suc i) ≡ object_bytes s i
  -- what they hold
  pub fields_before : (i : ℕ) → i < k → fields_of s' (layout_of s') i ≡ fields_of s (layout_of s) i
  pub fields_later : (i : ℕ) → k ≤ i → i < (layout_of s).n → fields_of s' (layout_of s') (suc i) ≡ fields_of s (layout_of s) i
  pub nested : (e : ℕ) → e < (layout_of s).nested → nested_of s' (layout_of s') e ≡ nested_of s (layout_of s) e
  pub points : (e : ℕ) → e < (layout_of s).points → point_of s' (layout_of s') e ≡ point_of s (layout_of s) e
