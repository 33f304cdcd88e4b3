-- `num_roots::root` meets its contract: proofs/RootBits.antt has a law, over the format, for each case of the bit pattern. Assumes nothing.
use Rattle.std.proofs.Common.{◌≡◌, ◌∙◌, sym, ap, subst, ℕ, zero, suc, ◌+◌, ◌*◌, ◌%◌, ◌<◌, ◌≤◌, zero-lt-suc, arith}
use Rattle.std.proofs.Math.Nat.{zero-mod}
use Rattle.std.specs.Float.Ieee.{of_bits}
use Rattle.num_roots.specs.Root.{root_of}
use Rattle.num_roots.proofs.RootBits.{at_zero, at_nan, at_inf, root_bits_at}
use Rattle.num_roots.proofs.root.Goals as goal

pub returns-then-b-SIGN-eq0 : goal.returns-then-b-SIGN-eq0
returns-then-b-SIGN-eq0 g c =
    let k = c.bits-b in
    let s = c.SIGN.ensures ∙ g.met.F.Binary.sign_is in
    at_zero g.F.Binary.format (g.F.Binary.number c.args.x) k.result k.ensures.fact_2 k.ensures.fact_3 (ap (λ (x : ℕ). k.result % x) (sym s) ∙ c.if-b-SIGN-eq0.true)

pub returns-then-INFINITY_BITS-b : goal.returns-then-INFINITY_BITS-b
returns-then-INFINITY_BITS-b g c =
    let k = c.bits-b in
    let s = c.SIGN.ensures ∙ g.met.F.Binary.sign_is in
    let i = c.INFINITY_BITS.ensures ∙ g.met.F.Binary.infinity_is in
    c.nan.ensures
    ∙ at_nan g.F.Binary.format (g.F.Binary.number c.args.x) k.result k.ensures.fact_2 k.ensures.fact_3
    (λ z. c.if-b-SIGN-eq0.false (ap (λ (x : ℕ). k.result % x) s ∙ z))
    (subst (λ (x : ℕ). x < k.result) i c.if-INFINITY_BITS-b.true)

pub returns-then-b-INFINITY_BITS : goal.returns-then-b-INFINITY_BITS
returns-then-b-INFINITY_BITS g c =
    let k = c.bits-b in
    at_inf g.F.Binary.format (g.F.Binary.number c.args.x) k.result k.ensures.fact_2 k.ensures.fact_3
    (c.if-b-INFINITY_BITS.true ∙ c.INFINITY_BITS-else-INFINITY_BITS-b.ensures ∙ g.met.F.Binary.infinity_is)

-- the pattern is that of a finite value above zero
inside : (b s i : ℕ) → (b % s ≡ 0 → ⊥) → b ≤ i → (b ≡ i → ⊥) → (0 < b) × (b < i)
inside b s i z h n = (pos b z, omega (arith, h, n))
  where
    pos : (b : ℕ) → (b % s ≡ 0 → ⊥) → 0 < b
    pos zero z = absurd (z (zero-mod s))
    pos (suc b) z = zero-lt-suc b

pub returns-else-b-INFINITY_BITS : goal.returns-else-b-INFINITY_BITS
returns-else-b-INFINITY_BITS g c =
    let k = c.bits-b in
    let p = c.parts-p in
    let r = c.nearest_root-r in
    let L = g.met.F.Binary in
    let i = inside k.result c.SIGN.result c.INFINITY_BITS.result c.if-b-SIGN-eq0.false c.if-INFINITY_BITS-b.false
    (λ e. c.if-b-INFINITY_BITS.false (e ∙ c.INFINITY_BITS.ensures ∙ sym c.INFINITY_BITS-else-INFINITY_BITS-b.ensures)) in
    let B = subst (λ (x : ℕ). k.result < x) (c.INFINITY_BITS.ensures ∙ L.infinity_is) i.1 in
    c.of_bits.ensures
    ∙ ap (λ (x : ℕ). of_bits g.F.Binary.format (r.result.exponent * x + r.result.digits)) (c.FIELD-else-b-INFINITY_BITS.ensures ∙ sym c.FIELD.ensures)
    ∙ root_bits_at g.F.Binary.format k.result p.result.digits p.result.exponent c.FIELD.result c.PRECISION.result c.LOW.result
    i.0 B (c.FIELD.ensures ∙ L.field_is) (c.PRECISION.ensures ∙ L.precision_is) (c.LOW.ensures ∙ L.low_is) p.ensures.fact_1 p.ensures.fact_2
    r.result.digits r.result.exponent r.ensures
    ∙ ap (root_of g.F.Binary.format) k.ensures.fact_2
