-- Offsets of places. Assumes nothing.
use Rattle.std.specs.Prelude.{ℕ, ◌+◌, ◌*◌, ◌≤◌, ◌<◌}
use Rattle.std.proofs.Common.{subst, mul-suc, mul-le-mul_left}

-- what stands at a place below n ends within n places
pub place_within : (size i n : ℕ) → i < n → size * i + size ≤ size * n
place_within size i n h = subst (λ (k : ℕ). k ≤ size * n) (mul-suc size i) (mul-le-mul_left size h)
