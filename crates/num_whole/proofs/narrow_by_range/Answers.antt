-- `num_whole::narrow_by_range` meets its contract: specs/NarrowLaws.antt has a law for each range of the exponent. Assumes nothing.
use Rattle.std.proofs.Common.{ℕ, ◌+◌, ◌-◌, ◌*◌, ◌^◌, ◌<◌, ◌≤◌, sym, ap, ◌∙◌, subst, lt_of_lt_of_le, arith, lit<, lit≤, pow_pos, pow_mono}
use lib.Ieee.Nearest.{closest}
use Rattle.num_whole.specs.Narrow.{Narrowed}
use Rattle.num_whole.proofs.NarrowRanges.{short, narrowed_none, narrowed_subnormal, narrowed_normal, narrowed_overflow}
use Rattle.num_whole.proofs.narrow_by_range.Goals as goal
use Rattle.num_whole.proofs.narrow_by_range.Goals.{After-parts-p, After-nearest_quotient-then-k-lt-OVERFLOW}

digits : (c : After-parts-p) → c.parts-p.result.digits < 2 ^ 53
digits c = short c.args.c c.parts-p.result.digits c.parts-p.result.exponent c.requires c.parts-p.ensures.fact_1 c.parts-p.ensures.fact_2

normal : (c : After-nearest_quotient-then-k-lt-OVERFLOW) → Narrowed c.args.c ((c.parts-p.result.exponent - 896) * 2 ^ 23 + c.nearest_quotient-then-k-lt-OVERFLOW.result)
normal c =
    narrowed_normal c.args.c c.parts-p.result.digits c.parts-p.result.exponent c.requires c.parts-p.ensures.fact_1 c.parts-p.ensures.fact_2 c.nearest_quotient-then-k-lt-OVERFLOW.result
    (omega arith) (omega arith) c.nearest_quotient-then-k-lt-OVERFLOW.ensures

pub nearest_quotient-requires : goal.nearest_quotient-requires
nearest_quotient-requires c =
    let e = c.power_of_two.ensures in
    let k = 925 - c.parts-p.result.exponent in
    let h : 2 ^ k ≤ 2 ^ 60 = pow_mono {j = 60} (omega arith) in
    record { fact_1 = subst (λ (x : ℕ). 0 < x) (sym e) (pow_pos k); fact_2 = omega arith; fact_3 = lt_of_lt_of_le (digits c.before.before.before) (lit≤ tt) }

pub nearest_quotient-requires-then-k-lt-OVERFLOW : goal.nearest_quotient-requires-then-k-lt-OVERFLOW
nearest_quotient-requires-then-k-lt-OVERFLOW c = record { fact_1 = lit< tt; fact_2 = lit< tt; fact_3 = lt_of_lt_of_le (digits c.before.before.before) (lit≤ tt) }

pub overflow_add-result : goal.overflow_add-result
overflow_add-result c = record { fits = omega (arith, (normal c).most) }

pub returns-then-k-lt-LOWEST : goal.returns-then-k-lt-LOWEST
returns-then-k-lt-LOWEST c =
    narrowed_none c.args.c c.parts-p.result.digits c.parts-p.result.exponent c.requires c.parts-p.ensures.fact_1 c.parts-p.ensures.fact_2 c.if-k-lt-LOWEST.true

pub returns-then-k-lt-NORMAL : goal.returns-then-k-lt-NORMAL
returns-then-k-lt-NORMAL c =
    narrowed_subnormal c.args.c c.parts-p.result.digits c.parts-p.result.exponent c.requires c.parts-p.ensures.fact_1 c.parts-p.ensures.fact_2 c.nearest_quotient.result
    (omega arith) (omega arith) (c.nearest_quotient.ensures ∙ ap (closest c.parts-p.result.digits) c.power_of_two.ensures)

pub returns-then-k-lt-OVERFLOW : goal.returns-then-k-lt-OVERFLOW
returns-then-k-lt-OVERFLOW c = normal c

pub returns-else-k-lt-OVERFLOW : goal.returns-else-k-lt-OVERFLOW
returns-else-k-lt-OVERFLOW c =
    narrowed_overflow c.args.c c.parts-p.result.digits c.parts-p.result.exponent c.requires c.parts-p.ensures.fact_1 c.parts-p.ensures.fact_2 c.if-k-lt-OVERFLOW.false
