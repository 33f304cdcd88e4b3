-- `calls_readings::check_place` meets its contract: there are fewer than n whole entries exactly where there are fewer numbers than n entries have. Assumes nothing.
use mathlib.Core.Path.{subst}
use native.Mathlib.Nat.{mul_comm, mul-le-mul, div-lt_iff_lt-mul, le-div_iff_mul-le}
use native.Mathlib.Omega.{arith}
use Prim.Native.Nat.{ℕ, ◌*◌, ◌/◌, ◌≤◌, ◌<◌}
use borrow.Author.Tests.{lt-ltb, le-ltb}
use Rattle.chart_opening.specs.Conditions.{first_of}
use Rattle.calls.specs.Conditions.{row_conditions}
use Rattle.calls_readings.proofs.check_place.Goals as goal

few : (numbers width n : ℕ) → 0 < width → numbers < width * n → numbers / width < n
few numbers width n h l = (div-lt_iff_lt-mul h).1 (subst (λ (x : ℕ). numbers < x) (mul_comm width n) l)

enough : (numbers width n : ℕ) → 0 < width → width * n ≤ numbers → n ≤ numbers / width
enough numbers width n h l = (le-div_iff_mul-le h).1 (subst (λ (x : ℕ). x ≤ numbers) (mul_comm width n) l)

pub overflow_mul-width : goal.overflow_mul-width
overflow_mul-width c = record { fits = omega (arith, mul-le-mul c.requires.2 c.requires.0) }

pub returns-then-numbers-width : goal.returns-then-numbers-width
unfolding first_of row_conditions
returns-then-numbers-width c =
    let a = c.args in
    simp (lt-ltb _ _ (few a.numbers a.width a.n c.requires.1 c.if-numbers-width.true))

pub returns-then-not-place-n : goal.returns-then-not-place-n
unfolding first_of row_conditions
returns-then-not-place-n c =
    let a = c.args in
    simp (le-ltb _ _ (enough a.numbers a.width a.n c.requires.1 c.if-numbers-width.false), c.if-not-place-n.true)

pub returns : goal.returns
unfolding first_of row_conditions
returns c =
    let a = c.args in
    simp (le-ltb _ _ (enough a.numbers a.width a.n c.requires.1 c.if-numbers-width.false), c.if-not-place-n.false)
