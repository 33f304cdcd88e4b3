-- Document 01, "Positions, paths, numbers": the rule of T, over a list T(1), T(2), .. Definitions only.
use Rattle.std.specs.Prelude.{ℕ, ◌*◌, ◌^◌, ◌≤◌, ◌≡◌, List, [], ◌∷◌, length}

-- t is "the largest t with t×t ≤" n
abbrev pub Largest : ℕ → ℕ → Type 0
Largest n t = (t * t ≤ n) × ((u : ℕ) → u * u ≤ n → u ≤ t)

-- behind T(j) = t: "T(j+1) is the largest t with t×t ≤ T(j) × 2^62"
abbrev pub Follows : ℕ → List ℕ → Type 0
Follows t [] = Unit {0}
Follows t (u ∷ us) = Largest (t * 2 ^ 62) u × Follows u us

-- T(1) to T(n): "T(0) = 2^63"
pub record Table (n : ℕ) (ts : List ℕ) : Type 0 where
  pub entries : length ts ≡ n
  pub rule : Follows (2 ^ 63) ts
