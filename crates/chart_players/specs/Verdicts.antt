-- An edit's conditions for the second player: those of the chart and the tables. Definitions only.
use Prim.Native.Nat.{ℕ}
use mathlib.Core.List.{List, [], ◌∷◌, ◌++◌}
use Rattle.chart_opening.specs.Conditions.{first_of, chart_conditions, too_few}
use Rattle.chart_opening.specs.Verdict.{Verdict}
use Rattle.chart_players.specs.Second.{under}

module _ (t b : List ℕ) (entries : ℕ) where
  unfoldable pub tried : ℕ → Verdict
  tried least = first_of (chart_conditions (under t b) ++ (too_few entries least ∷ []))
