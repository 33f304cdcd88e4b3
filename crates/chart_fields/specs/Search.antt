-- Document 01, "What each call answers": "the lowest offending place". Definitions only.
use Rattle.std.specs.Prelude.{ℕ, zero, suc, Bool, cond, Option, Some, None, ltb}

-- the lowest of k places from i on at which a test holds; i + k if there is none
unfoldable pub first_from : (ℕ → Bool) → ℕ → ℕ → ℕ
first_from bad zero i = i
first_from bad (suc k) i = let rest : ℕ = first_from bad k (suc i) in cond (bad i) i rest

-- the lowest place below n; n if there is none
unfoldable pub first_below : (ℕ → Bool) → ℕ → ℕ
first_below bad n = first_from bad n 0

-- that place, if there is one
unfoldable pub place_below : (ℕ → Bool) → ℕ → Option ℕ
place_below bad n = cond (ltb (first_below bad n) n) (Some (first_below bad n)) None
