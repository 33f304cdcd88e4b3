-- Document 01, "The chart": what a stored number of a kind says. Definitions only.
use Rattle.std.specs.Prelude.{ℕ, ◌≡◌, ◌<◌, Result, MatchResult}
use Rattle.chart_fields.specs.Objects.{circle, slider, spinner}
use Rattle.chart_fields.specs.declared.ObjectKind.{ObjectKind}
use Rattle.chart_fields.specs.declared.ObjectKind.TheVariants.{Circle, Slider, Spinner}
use Rattle.chart_fields.specs.declared.UnknownKind.{UnknownKind}

-- "0 circle, 1 slider, 2 spinner"
abbrev pub number_of : ObjectKind → ℕ
number_of Circle = circle
number_of Slider = slider
number_of Spinner = spinner

-- the kind with this number, or the number itself where it is above all of theirs
abbrev pub Named : ℕ → Result ObjectKind UnknownKind → Type 0
Named n r = MatchResult r (λ kind. number_of kind ≡ n) (λ e. (e.0 ≡ n) × (spinner < n))
