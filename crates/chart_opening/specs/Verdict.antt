-- What a call that can be refused answers: nothing where it is carried out, and the refusal where it is not. A definition only.
use Rattle.std.specs.Prelude.{Result}
use Rattle.chart_opening.specs.declared.Refusal.{Refusal}

abbrev pub Verdict : Type 0
Verdict = Result (Unit {0}) Refusal
