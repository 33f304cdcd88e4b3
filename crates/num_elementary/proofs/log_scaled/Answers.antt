-- `num_elementary::log_scaled` meets its contract: the shift brings m to its place, and the i64 arithmetic is on differences. Assumes nothing.
use Rattle.std.proofs.Common.{◌≡◌, ℕ, ◌+◌, ◌-◌, ◌*◌, ◌%◌, ◌^◌, ◌<◌, ◌≤◌, pos, ◌+ℤ◌, ◌-ℤ◌, ◌*ℤ◌, sym, ap, ◌∙◌, subst, ap₂, lt_trans, mod-eq_of_lt, arith, lit<, w64, to_z, of_z}
use lib.Count.{count_leading_zeros}
use lib.Ieee.{size}
use lib.Ieee.Digits.{size-le}
use Rattle.num_elementary.specs.Log.{log_bits}
use Rattle.num_elementary.specs.Signed.{diff, i64_cast, i64_add, i64_sub_lit, i64_mul_lit, i64_fits, i64_back}
use Rattle.num_elementary.specs.Significand.{size_pos, size_zeros, placed-lt}
use Rattle.num_elementary.specs.LogLaws.{log_odd}
use Rattle.num_elementary.proofs.log_scaled.Goals as goal

-- the significand's digits and the shift
module _ (m : ℕ) (p : 0 < m) (h : m < 2 ^ 53) where
  digits : count_leading_zeros 64 m + size m ≡ 64
  digits = size_zeros m p (lt_trans h (lit< tt))

  most : size m ≤ 53
  most = size-le m 53 h

  shifted : (m * 2 ^ (count_leading_zeros 64 m - 1)) % 2 ^ 64 ≡ m * 2 ^ (63 - size m)
  shifted =
      let e : count_leading_zeros 64 m - 1 ≡ 63 - size m = omega (arith, digits, size_pos m p) in
      let small : m * 2 ^ (63 - size m) < 2 ^ 64 = omega (arith, placed-lt m (omega (arith, most))) in
      ap (λ (x : ℕ). (m * 2 ^ x) % 2 ^ 64) e ∙ mod-eq_of_lt small

-- the signed arithmetic, of x = q + 1075 and the fraction f
module _ (x f : ℕ) (hx : x < 2110) (hf : f < 2 ^ 40) where
  q : to_z w64 x -ℤ pos 1075 ≡ diff x 1075
  q = i64_sub_lit x x 0 1075 (i64_cast x (omega arith))

  q_back : to_z w64 (of_z w64 (to_z w64 x -ℤ pos 1075)) ≡ diff x 1075
  q_back = i64_back x 1075 q (omega arith) (omega arith)

  scaled : to_z w64 (of_z w64 (to_z w64 x -ℤ pos 1075)) *ℤ pos (2 ^ 40) ≡ diff (x * 2 ^ 40) (1075 * 2 ^ 40)
  scaled = i64_mul_lit (of_z w64 (to_z w64 x -ℤ pos 1075)) x 1075 (2 ^ 40) q_back

  sum : to_z w64 (of_z w64 (to_z w64 (of_z w64 (to_z w64 x -ℤ pos 1075)) *ℤ pos (2 ^ 40))) +ℤ to_z w64 f ≡ diff (x * 2 ^ 40 + f) (1075 * 2 ^ 40 + 0)
  sum =
      i64_add (of_z w64 (to_z w64 (of_z w64 (to_z w64 x -ℤ pos 1075)) *ℤ pos (2 ^ 40))) f (x * 2 ^ 40) (1075 * 2 ^ 40) f 0
      (i64_back (x * 2 ^ 40) (1075 * 2 ^ 40) scaled (omega arith) (omega arith)) (i64_cast f (omega arith))

pub overflow_cast-zeros : goal.overflow_cast-zeros
overflow_cast-zeros c = omega (arith, digits c.args.m c.requires.0 c.requires.1)

pub overflow_sub-zeros : goal.overflow_sub-zeros
overflow_sub-zeros c = omega (arith, digits c.args.m c.requires.0 c.requires.1, most c.args.m c.requires.0 c.requires.1)

pub overflow_shl-m : goal.overflow_shl-m
overflow_shl-m c = omega (arith, digits c.args.m c.requires.0 c.requires.1)

pub log_fraction-fraction-requires : goal.log_fraction-fraction-requires
log_fraction-fraction-requires c =
    let m = c.args.m in
    subst (λ (n : ℕ). n < 2 ^ 63) (sym (shifted m c.requires.0 c.requires.1)) (placed-lt m (omega (arith, most m c.requires.0 c.requires.1)))

pub overflow_sub-q : goal.overflow_sub-q
overflow_sub-q c = omega (arith, digits c.args.m c.requires.0 c.requires.1)

pub overflow_sub-q-2 : goal.overflow_sub-q-2
overflow_sub-q-2 c =
    let x = c.args.k + (64 - count_leading_zeros 64 c.args.m) in
    i64_fits x 1075 (q x c.log_fraction-fraction.result (omega arith) c.log_fraction-fraction.ensures.1) (omega arith) (omega arith)

pub overflow_mul-result : goal.overflow_mul-result
overflow_mul-result c =
    let x = c.args.k + (64 - count_leading_zeros 64 c.args.m) in
    i64_fits (x * 2 ^ 40) (1075 * 2 ^ 40) (scaled x c.log_fraction-fraction.result (omega arith) c.log_fraction-fraction.ensures.1) (omega arith) (omega arith)

pub overflow_add-result : goal.overflow_add-result
overflow_add-result c =
    let x = c.args.k + (64 - count_leading_zeros 64 c.args.m) in
    let f = c.log_fraction-fraction.result in
    let hf : f < 2 ^ 40 = c.log_fraction-fraction.ensures.1 in
    i64_fits (x * 2 ^ 40 + f) (1075 * 2 ^ 40 + 0) (sum x f (omega arith) hf) (omega arith) (omega arith)

pub returns : goal.returns
returns c =
    let m = c.args.m in
    let k = c.args.k in
    let p = c.requires.0 in
    let h = c.requires.1 in
    let x = k + (64 - count_leading_zeros 64 m) in
    let f = c.log_fraction-fraction.result in
    let hf : f < 2 ^ 40 = c.log_fraction-fraction.ensures.1 in
    let ex : x ≡ k + size m = omega (arith, digits m p h) in
    let ef : f ≡ log_bits 40 (m * 2 ^ (63 - size m)) 0 = c.log_fraction-fraction.ensures.0 ∙ ap (λ (n : ℕ). log_bits 40 n 0) (shifted m p h) in
    i64_back (x * 2 ^ 40 + f) (1075 * 2 ^ 40 + 0) (sum x f (omega arith) hf) (omega arith) (omega arith)
    ∙ ap₂ (λ (a b : ℕ). diff (a * 2 ^ 40 + b) (1075 * 2 ^ 40)) ex ef
    ∙ sym (log_odd m k p h)
