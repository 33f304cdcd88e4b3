-- `num_elementary::log` meets its contract. Assumes nothing.
use Rattle.std.proofs.Common.{◌≡◌, T, ℤ, sym, ap, ◌∙◌, subst, w64, to_z, of_z, rules}
use lib.Ieee.{binary64, of_int, fits, in_float}
use Rattle.num_elementary.specs.Power.{log_total}
use Rattle.num_elementary.specs.Log.{log_of}
use Rattle.num_elementary.specs.LogLaws.{log_exact}
use Rattle.num_elementary.specs.PowerLaws.{positive_above}
use Rattle.num_elementary.proofs.log.Goals as goal
use Rattle.num_elementary.proofs.log.Goals.{After-log_whole}

logged : (c : After-log_whole) → to_z w64 (of_z w64 c.log_whole.result) ≡ log_of c.args.b
logged c = let back : to_z w64 (of_z w64 c.log_whole.result) ≡ c.log_whole.result = search rules in back ∙ c.log_whole.ensures

pub returns-then-not-is_finite : goal.returns-then-not-is_finite
unfolding log_total
returns-then-not-is_finite c = let n = sym c.is_finite.ensures ∙ c.if-not-is_finite.true in c.nan.ensures ∙ simp n

pub log_whole-requires : goal.log_whole-requires
log_whole-requires c = positive_above c.args.b (sym c.is_finite.ensures ∙ c.if-not-is_finite.false) c.if-b.true

pub int_to_float-result : goal.int_to_float-result
int_to_float-result c =
    let b = c.args.b in
    let f : T (fits binary64 b) = search rules in
    let p = positive_above b (sym c.is_finite.ensures ∙ c.if-not-is_finite.false) c.if-b.true in
    subst (λ (z : ℤ). T (in_float binary64 z)) (sym (logged c.before)) (log_exact b f p)

pub returns-then-b : goal.returns-then-b
unfolding log_total
returns-then-b c =
    let y = sym c.is_finite.ensures ∙ c.if-not-is_finite.false in
    ap (λ (z : ℤ). of_int binary64 z) (logged c.before) ∙ simp (y, c.if-b.true)

pub returns : goal.returns
unfolding log_total
returns c =
    let y = sym c.is_finite.ensures ∙ c.if-not-is_finite.false in
    c.nan-2.ensures ∙ simp (y, c.if-b.false)
