-- `num_elementary::two` meets its contract. Assumes nothing.
use Rattle.std.proofs.Common.{◌≡◌, Bool, true, not, T, sym, ap, ◌∙◌, subst, w64, to_z, of_z, rules}
use lib.Ieee.{Float, of_bits, neg, ne, nan_bits}
use lib.Ieee.Compare.{differs_from_itself}
use Rattle.num_elementary.specs.Two.{two_at, two_of}
use Rattle.num_elementary.proofs.Floor.{two_under, two_over, two_between}
use Rattle.num_elementary.proofs.two.Goals as goal

at_nan : (p : Float) → ne p p ≡ true → p ≡ two_of p
unfolding two_of
at_nan p e = let n = differs_from_itself p (subst T (sym e) tt) in n ∙ ap two_of (sym n)

pub returns-then-p : goal.returns-then-p
returns-then-p c = at_nan c.args.p c.if-p.true

pub returns-then-p-2 : goal.returns-then-p-2
unfolding of_bits neg
returns-then-p-2 c = sym (two_under c.args.p c.if-p-2.true)

pub floor_i64-requires : goal.floor_i64-requires
unfolding of_bits neg
floor_i64-requires c =
    (subst (λ (b : Bool). T (not b)) (sym c.if-p-2.false) tt, subst T (sym c.if-p-3.true) tt)

pub returns-then-p-3 : goal.returns-then-p-3
unfolding of_bits neg
returns-then-p-3 c =
    let p = c.args.p in
    let r = c.floor_i64.result in
    let back : to_z w64 (of_z w64 r) ≡ r = search rules in
    c.two_whole.ensures ∙ ap two_at (back ∙ c.floor_i64.ensures.0)
    ∙ sym (two_between p (subst T (sym c.if-p-3.true) tt) (subst (λ (x : Bool). T (not x)) (sym c.if-p-2.false) tt))

pub float_from_bits-result : goal.float_from_bits-result
unfolding nan_bits
float_from_bits-result c = tt

pub returns : goal.returns
unfolding of_bits neg
returns c = sym (two_over c.args.p c.if-p.false c.if-p-2.false c.if-p-3.false)
