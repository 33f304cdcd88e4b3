-- `num_elementary::mul_high` meets its contract: the upper digits of a product in base 2 ^ 32. Assumes nothing.
use Rattle.std.proofs.Common.{◌≡◌, ℕ, ◌+◌, ◌*◌, ◌/◌, ◌%◌, ◌^◌, ◌<◌, ◌≤◌, ◌∙◌, arith, lit<}
use Rattle.num_elementary.proofs.Product.{mul_bound, upper_digits}
use Rattle.num_elementary.proofs.mul_high.Goals as goal

-- a product of two digits
product : (x y : ℕ) → x ≤ 0xffff_ffff → y ≤ 0xffff_ffff → x * y ≤ 0xffff_ffff * 0xffff_ffff
product x y hx hy = mul_bound 0xffff_ffff 0xffff_ffff hx hy

-- the columns of two digits each, and what is carried from one to the next
module _ (a b : ℕ) (ha : a < 2 ^ 64) (hb : b < 2 ^ 64) where
  hi_lo : a / 0x1_0000_0000 * (b % 0x1_0000_0000) ≤ 0xffff_ffff * 0xffff_ffff
  hi_lo = product _ _ (omega arith) (omega arith)

  lo_hi : a % 0x1_0000_0000 * (b / 0x1_0000_0000) ≤ 0xffff_ffff * 0xffff_ffff
  lo_hi = product _ _ (omega arith) (omega arith)

  lo_lo : a % 0x1_0000_0000 * (b % 0x1_0000_0000) ≤ 0xffff_ffff * 0xffff_ffff
  lo_lo = product _ _ (omega arith) (omega arith)

  hi_hi : a / 0x1_0000_0000 * (b / 0x1_0000_0000) ≤ 0xffff_ffff * 0xffff_ffff
  hi_hi = product _ _ (omega arith) (omega arith)

-- a sum of columns divided by parts
carried : (h x y z : ℕ) → h + (x + z) / 0x1_0000_0000 + (y + (x + z) % 0x1_0000_0000) / 0x1_0000_0000 ≡ h + (x + y + z) / 0x1_0000_0000
carried h x y z = omega arith

pub overflow_mul-first : goal.overflow_mul-first
overflow_mul-first c = omega (arith, hi_lo c.args.a c.args.b (omega arith) (omega arith))

pub overflow_mul-first-2 : goal.overflow_mul-first-2
overflow_mul-first-2 c = omega (arith, lo_lo c.args.a c.args.b (omega arith) (omega arith))

pub overflow_add-first : goal.overflow_add-first
overflow_add-first c = omega (arith, hi_lo c.args.a c.args.b (omega arith) (omega arith), lo_lo c.args.a c.args.b (omega arith) (omega arith))

pub overflow_mul-second : goal.overflow_mul-second
overflow_mul-second c = omega (arith, lo_hi c.args.a c.args.b (omega arith) (omega arith))

pub overflow_add-second : goal.overflow_add-second
overflow_add-second c = omega (arith, lo_hi c.args.a c.args.b (omega arith) (omega arith))

pub overflow_mul-result : goal.overflow_mul-result
overflow_mul-result c = omega (arith, hi_hi c.args.a c.args.b (omega arith) (omega arith))

pub overflow_add-result : goal.overflow_add-result
overflow_add-result c = omega (arith, hi_hi c.args.a c.args.b (omega arith) (omega arith), hi_lo c.args.a c.args.b (omega arith) (omega arith), lo_lo c.args.a c.args.b (omega arith) (omega arith))

pub overflow_add-result-2 : goal.overflow_add-result-2
overflow_add-result-2 c = omega (arith, hi_hi c.args.a c.args.b (omega arith) (omega arith), hi_lo c.args.a c.args.b (omega arith) (omega arith), lo_hi c.args.a c.args.b (omega arith) (omega arith), lo_lo c.args.a c.args.b (omega arith) (omega arith))

pub returns : goal.returns
returns c = carried _ _ _ _ ∙ upper_digits 0x1_0000_0000 c.args.a c.args.b (lit< tt)
