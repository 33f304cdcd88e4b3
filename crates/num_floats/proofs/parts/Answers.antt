-- `num_floats::parts` meets its contract. Assumes nothing.
use mathlib.Core.Path.{refl, sym, ap}
use mathlib.Core.Bool.{Bool, cond}
use Prim.Native.Nat.{ℕ, ◌+◌, ◌-◌, ◌%◌}
use native.Mathlib.Nat.{mod-lt, one-mul, le_trans, le_of_eq, le-div_iff_mul-le, div-eq_of_lt}
use native.Mathlib.Omega.{arith}
use lib.Dec.{ltb, lt→ltb}
use lib.Arith.{le→nltb}
use lib.Ieee.Bits.{is_true, is_false}
use Rattle.num_floats.proofs.parts.Goals as goal

pub overflow_add-result : goal.overflow_add-result
overflow_add-result c = record { fits = omega (arith, mod-lt c.args.b c.requires.fact_1, c.requires.fact_2) }

pub overflow_sub-result : goal.overflow_sub-result
overflow_sub-result c = (le-div_iff_mul-le c.requires.fact_1).1 (le_trans (le_of_eq (one-mul c.args.hid)) c.if-b-hid.false)

pub returns-then-b-hid : goal.returns-then-b-hid
returns-then-b-hid c =
    let b = c.args.b in
    let h = c.args.hid in
    record {
      fact_1 = sym (ap (λ (t : Bool). cond t b (h + b % h)) (is_true (ltb b h) (lt→ltb b h c.if-b-hid.true)));
      fact_2 = sym (ap (λ (x : ℕ). x - 1) (div-eq_of_lt c.if-b-hid.true));
    }

pub returns-else-b-hid : goal.returns-else-b-hid
returns-else-b-hid c =
    let b = c.args.b in
    let h = c.args.hid in
    record {
      fact_1 = sym (ap (λ (t : Bool). cond t b (h + b % h)) (is_false (ltb b h) (le→nltb b h c.if-b-hid.false)));
      fact_2 = refl;
    }
