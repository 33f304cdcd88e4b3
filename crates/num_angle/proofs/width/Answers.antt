-- `num_angle::width` meets its contract: a factor of 2^s adds s digits to a number above 0. Assumes nothing.
use Prim.Native.Nat.{ℕ, ◌+◌, ◌<◌}
use native.Mathlib.Omega.{arith}
use mathlib.Core.Path.{sym, ap, ◌∙◌}
use borrow.Author.Rules.{rules}
use Rattle.num_angle.proofs.Sizes.{size_zero, size_shift}
use Rattle.num_angle.proofs.width.Goals as goal

pub returns-then-p-eq0 : goal.returns-then-p-eq0
returns-then-p-eq0 c = let p = c.args.p in (sym (size_zero p.digits p.exponent c.if-p-eq0.true), search rules)

pub returns-else-p-eq0 : goal.returns-else-p-eq0
returns-else-p-eq0 c =
    let p = c.args.p in
    let h = c.if-p-eq0.false in
    let l : 0 < p.digits = omega (arith, h) in
    (ap (λ (d : ℕ). d + p.exponent) c.digits.ensures.0 ∙ sym (size_shift p.digits p.exponent l), search rules)
