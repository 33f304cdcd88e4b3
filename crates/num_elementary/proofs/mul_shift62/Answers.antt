-- `num_elementary::mul_shift62` meets its contract: of both twice, over four times as much. Assumes nothing.
use Rattle.std.proofs.Common.{◌≡◌, ℕ, ◌*◌, ◌/◌, ◌^◌, ap, ◌∙◌, mul_assoc, mul_left_comm, arith}
use Rattle.num_elementary.proofs.mul_shift62.Goals as goal

twice : (a b : ℕ) → 2 * a * (2 * b) ≡ 4 * (a * b)
twice a b = mul_assoc 2 a (2 * b) ∙ (ap (λ (n : ℕ). 2 * n) (mul_left_comm a 2 b) ∙ omega arith)

fourth : (n : ℕ) → 4 * n / 2 ^ 64 ≡ n / 2 ^ 62
fourth n = omega arith

pub returns : goal.returns
returns c =
    let a = c.args.a in
    let b = c.args.b in
    c.mul_high.ensures ∙ (ap (λ (n : ℕ). n / 2 ^ 64) (twice a b) ∙ fourth (a * b))
