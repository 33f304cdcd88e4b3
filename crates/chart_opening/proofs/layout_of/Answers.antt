-- `chart_opening::layout_of` meets its contract. Assumes nothing.
use Prim.Native.Nat.{◌*◌, ◌^◌, ◌≤◌}
use native.Mathlib.Nat.{mul-le-mul}
use native.Mathlib.Omega.{arith}
use Rattle.chart_fields.specs.Limits.{stated_size}
use Rattle.chart_opening.specs.Header.{layout_of}
use Rattle.chart_opening.proofs.Header.{size_most}
use Rattle.chart_opening.proofs.layout_of.Goals as goal
use Rattle.chart_opening.proofs.layout_of.Goals.{After-size_for-object_size}

small : (c : After-size_for-object_size) → c.size_for-object_size.result * c.u32_at-n.result ≤ stated_size * 2 ^ 32
small c =
    let size : c.size_for-object_size.result ≤ stated_size = rw c.size_for-object_size.ensures (size_most _) in
    let count : c.u32_at-n.result ≤ 2 ^ 32 = omega arith in
    mul-le-mul size count

pub overflow_mul-nested_at : goal.overflow_mul-nested_at
overflow_mul-nested_at c = omega (arith, small c)

pub overflow_add-nested_at : goal.overflow_add-nested_at
overflow_add-nested_at c = omega (arith, small c)

pub overflow_add-result : goal.overflow_add-result
overflow_add-result c = omega (arith, small c)

pub returns : goal.returns
unfolding layout_of
returns c = cc
