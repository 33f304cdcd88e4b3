-- `num_roots::root_digits` meets its contract: the two lengths that the formats ask for, as m * 2^42 and m / 2^16. Assumes nothing.
use Rattle.num_roots.specs.Digits.{RootRest}
use native.Mathlib.Omega.{arith}
use Prim.Native.Nat.{ℕ, ◌*◌, ◌/◌, ◌^◌}
use mathlib.Core.Path.{◌≡◌, ap, ◌∙◌, subst}
use Rattle.num_roots.proofs.Halves.{long_is, short_is}
use Rattle.num_roots.proofs.root_digits.Goals as goal

pub returns-then-d-eq-PRECISION : goal.returns-then-d-eq-PRECISION
returns-then-d-eq-PRECISION c =
    let m = c.args.m in
    let e : 53 ≡ c.args.d = omega arith in
    subst (λ (n : ℕ). RootRest n c.long_root.result.root c.long_root.result.rest) (long_is m ∙ ap (λ (d : ℕ). m * 4 ^ d / 2 ^ 64) e) c.long_root.ensures

pub returns-then-d-eq-PRECISION-2 : goal.returns-then-d-eq-PRECISION-2
returns-then-d-eq-PRECISION-2 c =
    let m = c.args.m in
    let e : 24 ≡ c.args.d = omega arith in
    subst (λ (n : ℕ). RootRest n c.whole_root.result.root c.whole_root.result.rest) (short_is m ∙ ap (λ (d : ℕ). m * 4 ^ d / 2 ^ 64) e) c.whole_root.ensures.fact_1
