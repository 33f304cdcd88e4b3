-- Document 01, "The chart": what a nested entry's stored number of a kind says. Definitions only.
use Rattle.std.specs.Prelude.{ℕ, ◌≡◌, ◌<◌, Result, MatchResult}
use Rattle.chart_fields.specs.declared.UnknownKind.{UnknownKind}
use Rattle.chart_entries.specs.Entries.{tail}
use Rattle.chart_entries.specs.declared.NestedKind.{NestedKind}
use Rattle.chart_entries.specs.declared.NestedKind.TheVariants.{Tick, Repeat, Tail}

-- "0 tick, 1 repeat, 2 tail"
abbrev pub number_of : NestedKind → ℕ
number_of Tick = 0
number_of Repeat = 1
number_of Tail = tail

-- the kind with this number, or the number itself where it is above all of theirs
abbrev pub Named : ℕ → Result NestedKind UnknownKind → Type 0
Named n r = MatchResult r (λ kind. number_of kind ≡ n) (λ e. (e.0 ≡ n) × (tail < n))
