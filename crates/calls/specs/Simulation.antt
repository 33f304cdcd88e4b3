-- A list of calls, carried out one after the other. `step c s` is what call c answers in state s, and the state that it leaves.
-- Nothing here knows what a call is. Definitions only.
use Rattle.std.specs.Prelude.{List, [], ◌∷◌}

module _ {S C A : Type 0} (step : C → S → A × S) where
  -- the answers to the calls, in order
  unfoldable pub answers : List C → S → List A
  answers [] s = []
  answers (c ∷ cs) s = (step c s).0 ∷ answers cs (step c s).1

  -- the state after the calls
  unfoldable pub after : List C → S → S
  after [] s = s
  after (c ∷ cs) s = after cs (step c s).1

  -- each call is admissible in the state in which it is made
  unfoldable pub Throughout : (S → C → Type 0) → List C → S → Type 0
  Throughout Ok [] s = Unit {0}
  Throughout Ok (c ∷ cs) s = Ok s c × Throughout Ok cs (step c s).1
