-- `num_elementary::power_other` meets its contract. Assumes nothing.
use Rattle.std.proofs.Common.{◌≡◌, T, ℤ, sym, ap, ◌∙◌, subst, w64, to_z, of_z, rules}
use lib.Ieee.{Float, binary64, of_bits, of_int, fits, in_float}
use Rattle.num_floats.specs.Numbers.{◌⊗◌}
use Rattle.num_elementary.specs.Log.{log_of}
use Rattle.num_elementary.specs.Two.{two_of}
use Rattle.num_elementary.specs.Power.{power_other}
use Rattle.num_elementary.specs.LogLaws.{log_exact}
use Rattle.num_elementary.specs.PowerLaws.{positive_above}
use Rattle.num_elementary.specs.PowerOfOne.{eq_one, other_of_one}
use Rattle.num_elementary.proofs.power_other.Goals as goal
use Rattle.num_elementary.proofs.power_other.Goals.{After-log_whole}

logged : (c : After-log_whole) → to_z w64 (of_z w64 c.log_whole.result) ≡ log_of c.args.b
logged c = let back : to_z w64 (of_z w64 c.log_whole.result) ≡ c.log_whole.result = search rules in back ∙ c.log_whole.ensures

pub returns-then-not-is_finite : goal.returns-then-not-is_finite
unfolding power_other
returns-then-not-is_finite c = let n = sym c.is_finite.ensures ∙ c.if-not-is_finite.true in c.nan.ensures ∙ simp n

pub returns-then-not-is_finite-2 : goal.returns-then-not-is_finite-2
unfolding power_other
returns-then-not-is_finite-2 c =
    let y = sym c.is_finite.ensures ∙ c.if-not-is_finite.false in
    let n = sym c.is_finite-2.ensures ∙ c.if-not-is_finite-2.true in
    c.nan-then-not-is_finite-2.ensures ∙ simp (y, n)

-- the two tests passed: `t` is where the second one is left
pub returns-then-b : goal.returns-then-b
unfolding power_other
returns-then-b c =
    let y = sym c.is_finite.ensures ∙ c.if-not-is_finite.false in
    let z = sym c.is_finite-2.ensures ∙ c.if-not-is_finite-2.false in
    c.nan-then-b.ensures ∙ simp (y, z, c.if-b.true)

-- the base 1
pub returns-then-b-2 : goal.returns-then-b-2
unfolding of_bits
returns-then-b-2 c =
    let b = c.args.b in
    let f : T (fits binary64 b) = search rules in
    let z = sym c.is_finite-2.ensures ∙ c.if-not-is_finite-2.false in
    sym (ap (λ (x : Float). power_other x c.args.e) (eq_one b f c.if-b-2.true) ∙ other_of_one c.args.e z)

pub log_whole-requires : goal.log_whole-requires
log_whole-requires c =
    positive_above c.args.b (sym c.is_finite.ensures ∙ c.if-not-is_finite.false) c.if-b-3.true

pub int_to_float-log_whole : goal.int_to_float-log_whole
int_to_float-log_whole c =
    let b = c.args.b in
    let f : T (fits binary64 b) = search rules in
    let p = positive_above b (sym c.is_finite.ensures ∙ c.if-not-is_finite.false) c.if-b-3.true in
    subst (λ (z : ℤ). T (in_float binary64 z)) (sym (logged c.before)) (log_exact b f p)

pub returns-then-b-3 : goal.returns-then-b-3
unfolding power_other
returns-then-b-3 c =
    let y = sym c.is_finite.ensures ∙ c.if-not-is_finite.false in
    let z = sym c.is_finite-2.ensures ∙ c.if-not-is_finite-2.false in
    c.two.ensures
    ∙ ap (λ (l : ℤ). two_of (c.args.e ⊗ of_int binary64 l)) (logged c.before.before)
    ∙ simp (y, z, c.if-b.false, c.if-b-3.true)

pub returns : goal.returns
unfolding power_other
returns c =
    let y = sym c.is_finite.ensures ∙ c.if-not-is_finite.false in
    let z = sym c.is_finite-2.ensures ∙ c.if-not-is_finite-2.false in
    c.power_of_zero.ensures ∙ simp (y, z, c.if-b.false, c.if-b-3.false)
