-- `num_elementary::two_whole` meets its contract. E is u - 1022 * 2 ^ 40 for a natural number u, whose quotient and remainder by 2 ^ 40 are n + 1022 and f. Assumes nothing.
use Rattle.std.proofs.Common.{◌≡◌, ℕ, ◌+◌, ◌-◌, ◌*◌, ◌/◌, ◌%◌, ◌^◌, ◌<◌, ◌≤◌, false, T, ℤ, pos, negsuc, ◌+ℤ◌, ◌-ℤ◌, ◌*ℤ◌, nat_abs, sym, ap, ◌∙◌, subst, ap₂, inr, le_of_lt, zero-add, arith, lit<, w64, to_z, of_z}
use lib.Signed.{shr_z, non_neg, le_z, lt_z}
use lib.Ieee.{units, binary64, of_bits}
use Rattle.num_elementary.specs.Two.{two_bits, two_round}
use Rattle.num_elementary.specs.Signed.{diff, biased, i64_add_lit, i64_sub, i64_mul_lit, i64_shr, i64_fits, i64_back, i64_unsigned, i64_nonneg}
use Rattle.num_floats.specs.Bits.{no_nan_bits}
use Rattle.num_floats.specs.Value.{units_bits}
use Rattle.num_elementary.specs.TwoLaws.{round_least, round_most}
use Rattle.num_elementary.proofs.TwoAt.{two_at_lem}
use Rattle.num_elementary.proofs.two_whole.Goals as goal
use Rattle.num_elementary.proofs.two_whole.Goals.{After-two_round}

-- the bits of n, of n * 2 ^ 40, of E - n * 2 ^ 40 and of n + 1022, as the machine has them
abbrev n_bits : ℤ → ℕ
n_bits z = of_z w64 (shr_z (to_z w64 (of_z w64 z)) (2 ^ 40))

abbrev scaled_bits : ℤ → ℕ
scaled_bits z = of_z w64 (to_z w64 (n_bits z) *ℤ pos (2 ^ 40))

abbrev rest_bits : ℤ → ℕ
rest_bits z = of_z w64 (to_z w64 (of_z w64 z) -ℤ to_z w64 (scaled_bits z))

abbrev field_bits : ℤ → ℕ
field_bits z = of_z w64 (to_z w64 (n_bits z) +ℤ pos 1022)

module _ (z : ℤ) (u : ℕ) (is : z ≡ diff u (1022 * 2 ^ 40)) (hu : u < 2046 * 2 ^ 40) where
  e_is : to_z w64 (of_z w64 z) ≡ diff u (1022 * 2 ^ 40)
  e_is = i64_back u (1022 * 2 ^ 40) is (omega arith) (omega arith)

  n_is : to_z w64 (n_bits z) ≡ diff (u / 2 ^ 40) 1022
  n_is = i64_back (u / 2 ^ 40) 1022 (i64_shr (of_z w64 z) u 1022 (2 ^ 40) (lit< tt) e_is) (omega arith) (omega arith)

  scaled : to_z w64 (n_bits z) *ℤ pos (2 ^ 40) ≡ diff (u / 2 ^ 40 * 2 ^ 40) (1022 * 2 ^ 40)
  scaled = i64_mul_lit (n_bits z) (u / 2 ^ 40) 1022 (2 ^ 40) n_is

  scaled_is : to_z w64 (scaled_bits z) ≡ diff (u / 2 ^ 40 * 2 ^ 40) (1022 * 2 ^ 40)
  scaled_is = i64_back (u / 2 ^ 40 * 2 ^ 40) (1022 * 2 ^ 40) scaled (omega arith) (omega arith)

  rest : to_z w64 (of_z w64 z) -ℤ to_z w64 (scaled_bits z) ≡ diff (u + 1022 * 2 ^ 40) (1022 * 2 ^ 40 + u / 2 ^ 40 * 2 ^ 40)
  rest = i64_sub (of_z w64 z) (scaled_bits z) u (1022 * 2 ^ 40) (u / 2 ^ 40 * 2 ^ 40) (1022 * 2 ^ 40) e_is scaled_is

  rest_is : to_z w64 (rest_bits z) ≡ diff (u + 1022 * 2 ^ 40) (1022 * 2 ^ 40 + u / 2 ^ 40 * 2 ^ 40)
  rest_is = i64_back (u + 1022 * 2 ^ 40) (1022 * 2 ^ 40 + u / 2 ^ 40 * 2 ^ 40) rest (omega arith) (omega arith)

  f_is : nat_abs (to_z w64 (rest_bits z)) ≡ u % 2 ^ 40
  f_is =
      let e : u + 1022 * 2 ^ 40 - (1022 * 2 ^ 40 + u / 2 ^ 40 * 2 ^ 40) ≡ u % 2 ^ 40 = omega arith in
      i64_unsigned (rest_bits z) (u + 1022 * 2 ^ 40) (1022 * 2 ^ 40 + u / 2 ^ 40 * 2 ^ 40) rest_is (omega arith) ∙ e

  f_pos : T (non_neg (to_z w64 (rest_bits z)))
  f_pos = i64_nonneg (rest_bits z) (u + 1022 * 2 ^ 40) (1022 * 2 ^ 40 + u / 2 ^ 40 * 2 ^ 40) rest_is (omega arith)

  field : to_z w64 (n_bits z) +ℤ pos 1022 ≡ diff (u / 2 ^ 40 + 1022) 1022
  field = i64_add_lit (n_bits z) (u / 2 ^ 40) 1022 1022 n_is

  field_is : to_z w64 (field_bits z) ≡ diff (u / 2 ^ 40 + 1022) 1022
  field_is = i64_back (u / 2 ^ 40 + 1022) 1022 field (omega arith) (omega arith)

  x_is : nat_abs (to_z w64 (field_bits z)) ≡ u / 2 ^ 40
  x_is =
      let e : u / 2 ^ 40 + 1022 - 1022 ≡ u / 2 ^ 40 = omega arith in
      i64_unsigned (field_bits z) (u / 2 ^ 40 + 1022) 1022 field_is (omega arith) ∙ e

  x_pos : T (non_neg (to_z w64 (field_bits z)))
  x_pos = i64_nonneg (field_bits z) (u / 2 ^ 40 + 1022) 1022 field_is (omega arith)

-- what the `requires` gives
from_pre : (z : ℤ) → T (le_z (negsuc 1123700883587071) z) × T (lt_z z (pos (2 ^ 50))) → (u : ℕ) × (z ≡ diff u (1022 * 2 ^ 40)) × (u < 2046 * 2 ^ 40)
from_pre z p = biased 1123700883587071 (2 ^ 50) z p.0 p.1

-- the digits and the field, as `units-bits` asks them
digits : (c : After-two_round) → (2 ^ 52 ≤ c.two_round.result) × (c.two_round.result ≤ 2 ^ 53)
digits c =
    let p = c.two_bits.result in
    let e = sym c.two_round.ensures in
    (subst (λ (x : ℕ). 2 ^ 52 ≤ x) e (round_least p c.two_bits.ensures.1), subst (λ (x : ℕ). x ≤ 2 ^ 53) e (le_of_lt (round_most p c.two_bits.ensures.2)))

pub overflow_mul-f : goal.overflow_mul-f
overflow_mul-f c =
    let b = from_pre c.args.e c.requires in
    let u = b.0 in let hu = b.2 in
    i64_fits (u / 2 ^ 40 * 2 ^ 40) (1022 * 2 ^ 40) (scaled c.args.e u b.1 hu) (omega arith) (omega arith)

pub overflow_sub-f : goal.overflow_sub-f
overflow_sub-f c =
    let b = from_pre c.args.e c.requires in
    let u = b.0 in let hu = b.2 in
    i64_fits (u + 1022 * 2 ^ 40) (1022 * 2 ^ 40 + u / 2 ^ 40 * 2 ^ 40) (rest c.args.e u b.1 hu) (omega arith) (omega arith)

pub overflow_cast-f : goal.overflow_cast-f
overflow_cast-f c =
    let b = from_pre c.args.e c.requires in
    let u = b.0 in let hu = b.2 in
    let e = f_is c.args.e u b.1 hu in
    (f_pos c.args.e u b.1 hu, omega arith)

pub overflow_add-field : goal.overflow_add-field
overflow_add-field c =
    let b = from_pre c.args.e c.requires in
    let u = b.0 in let hu = b.2 in
    i64_fits (u / 2 ^ 40 + 1022) 1022 (field c.args.e u b.1 hu) (omega arith) (omega arith)

pub overflow_cast-field : goal.overflow_cast-field
overflow_cast-field c =
    let b = from_pre c.args.e c.requires in
    let u = b.0 in let hu = b.2 in
    let e = x_is c.args.e u b.1 hu in
    (x_pos c.args.e u b.1 hu, omega arith)

pub two_round-requires : goal.two_round-requires
two_round-requires c = omega (arith, c.two_bits.ensures.2)

pub overflow_mul-result : goal.overflow_mul-result
overflow_mul-result c =
    let b = from_pre c.args.e c.requires in
    let u = b.0 in let hu = b.2 in
    let e = x_is c.args.e u b.1 hu in
    omega arith

pub overflow_add-result : goal.overflow_add-result
overflow_add-result c =
    let b = from_pre c.args.e c.requires in
    let u = b.0 in let hu = b.2 in
    let e = x_is c.args.e u b.1 hu in
    omega (arith, (digits c).1)

pub float_from_bits-result : goal.float_from_bits-result
float_from_bits-result c =
    let z = c.args.e in
    let b = from_pre z c.requires in
    let u = b.0 in let hu = b.2 in
    let e = x_is z u b.1 hu in
    no_nan_bits binary64 (nat_abs (to_z w64 (field_bits z)) * 2 ^ 52 + c.two_round.result) (omega (arith, (digits c).1))

pub returns : goal.returns
returns c =
    let z = c.args.e in
    let b = from_pre z c.requires in
    let u = b.0 in let hu = b.2 in
    let k = nat_abs (to_z w64 (field_bits z)) in
    let e : k ≡ u / 2 ^ 40 = x_is z u b.1 hu in
    let q = c.two_round.result in
    let kept : q ≡ two_round (two_bits 40 (u % 2 ^ 40) (2 ^ 62)) =
    c.two_round.ensures ∙ ap two_round (c.two_bits.ensures.0 ∙ ap (λ (x : ℕ). two_bits 40 x (2 ^ 62)) (f_is z u b.1 hu)) in
    ap (of_bits binary64) (sym (zero-add (k * 2 ^ 52 + q)))
    ∙ sym (units_bits binary64 false q k (digits c).1 (inr (digits c).0) (omega arith))
    ∙ ap₂ (λ (x y : ℕ). units binary64 false x y) kept e
    ∙ sym (two_at_lem u hu z b.1)
