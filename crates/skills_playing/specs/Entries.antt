-- What the lent list holds after the walk: entry m is what a separate working out for m gives, for each m up to n; what lies past entry n stays; and entry n is
-- the ordinary answer. Assumes nothing.
use Rattle.std.specs.Prelude.{ℕ, ◌+◌, ◌*◌, ◌≤◌, ◌≡◌, refl, List, length, drop, Float}
use Rattle.std.proofs.Common.{arith}
use Rattle.chart_fields.specs.declared.Layout.{Layout}
use Rattle.num_tables.specs.Parts.{row, fill}
use Rattle.num_tables.proofs.Rows.{row_fill-in, drop-fill}
use Rattle.skills.specs.Chart.{totals_of}
use Rattle.skills_playing.specs.Playing.{total_row, row_after}

module _ (s : List ℕ) (lay : Layout) (clock : Float) (values list : List Float) (room : 4 * (lay.n + 1) ≤ length list) where
  abbrev after : List Float
  after = fill 4 (row_after s lay clock values) 0 (lay.n + 1) list

  pub entry_at : (m : ℕ) → m ≤ lay.n → row 4 after m ≡ row_after s lay clock values m
  entry_at m h = row_fill-in 4 (row_after s lay clock values) (λ j. refl) m 0 (lay.n + 1) list (λ p. omega arith) (omega arith) (omega arith)

  pub rest_stays : drop (4 * (lay.n + 1)) after ≡ drop (4 * (lay.n + 1)) list
  rest_stays = drop-fill 4 (row_after s lay clock values) (λ j. refl) 0 (lay.n + 1) (lay.n + 1) list (λ p. omega arith) (λ p. omega arith)

  pub last_entry : row 4 after lay.n ≡ total_row (totals_of s lay clock values)
  last_entry = entry_at lay.n (omega arith)
