-- Two lists that hold the same bytes hold the same object there. Assumes nothing.
use Rattle.std.specs.Prelude.{ℕ, ◌+◌, ◌≤◌, ◌≡◌, refl, Bool, true, false, cond, List, eqb}
use Rattle.std.proofs.Common.{arith, eqb-true}
use Rattle.num_floats.specs.Fields.{f64_at}
use Rattle.num_floats.specs.Numbers.{zero64}
use Rattle.num_floats.specs.Same.{Same, shift, u32_same, f64_same, f32_same}
use Rattle.chart_fields.specs.Limits.{object_size, stated_size}
use Rattle.chart_fields.specs.Objects.{stated_length, fields_at}

length-same : {a b : List ℕ} {p q size : ℕ} → Same a p b q size → stated_length a p size ≡ stated_length b q size
unfolding stated_length
length-same {a} {b} {p} {q} {size} s = go (eqb size stated_size) (eqb-true size stated_size)
  where
    go : (t : Bool) → (t ≡ true → size ≡ stated_size) → cond t (f64_at a (p + object_size)) zero64 ≡ cond t (f64_at b (q + object_size)) zero64
    go true h = f64_same (shift s object_size 8 (omega (arith, h refl))) (omega arith)
    go false h = refl

pub fields_same : {a b : List ℕ} {p q size : ℕ} → Same a p b q size → object_size ≤ size → fields_at a p size ≡ fields_at b q size
unfolding fields_at
fields_same s h =
    cc (
      f64_same s (omega arith),
      f64_same (shift s 8 8 (omega arith)) (omega arith),
      f32_same (shift s 16 4 (omega arith)) (omega arith),
      f32_same (shift s 20 4 (omega arith)) (omega arith),
      f32_same (shift s 24 4 (omega arith)) (omega arith),
      f32_same (shift s 28 4 (omega arith)) (omega arith),
      u32_same (shift s 32 4 (omega arith)) (omega arith),
      u32_same (shift s 36 4 (omega arith)) (omega arith),
      u32_same (shift s 40 4 (omega arith)) (omega arith),
      u32_same (shift s 44 4 (omega arith)) (omega arith),
      u32_same (shift s 48 4 (omega arith)) (omega arith),
      u32_same (shift s 52 4 (omega arith)) (omega arith),
      length-same s,
    )
