-- `num_elementary::log_whole` meets its contract: the pattern's parts are the significand and the exponent of b. Assumes nothing.
use Rattle.std.proofs.Common.{◌≡◌, ℕ, ◌^◌, ◌<◌, false, sym, ap, ◌∙◌, subst, ap₂, w64, to_z, of_z, rules}
use lib.Ieee.{binary64, odd}
use Rattle.num_floats.specs.Value.{sig_short}
use Rattle.num_elementary.specs.Log.{log_of}
use Rattle.num_elementary.specs.Significand.{above_digits, above_exponent, above_odd}
use Rattle.num_elementary.proofs.log_whole.Goals as goal

pub log_scaled-requires : goal.log_scaled-requires
log_scaled-requires c =
    let b = c.args.b in
    let p = c.requires in
    let n = c.bits.result in
    let read = c.bits.ensures.fact_2 in
    let wide : n < 2 ^ 64 = search rules in (
      subst (λ (x : ℕ). 0 < x) (sym c.parts-p.ensures.fact_1) (above_digits b n read wide p),
      subst (λ (x : ℕ). x < 2 ^ 53) (sym c.parts-p.ensures.fact_1) (sig_short binary64 n),
      subst (λ (x : ℕ). x < 2046) (sym c.parts-p.ensures.fact_2) (above_exponent b n read wide p),
    )

pub returns : goal.returns
returns c =
    let b = c.args.b in
    let p = c.requires in
    let n = c.bits.result in
    let read = c.bits.ensures.fact_2 in
    let wide : n < 2 ^ 64 = search rules in
    let r = c.log_scaled.result in
    let back : to_z w64 (of_z w64 r) ≡ r = search rules in
    back
    ∙ c.log_scaled.ensures
    ∙ ap₂ (λ (m k : ℕ). log_of (odd 53 false m k 1074)) c.parts-p.ensures.fact_1 c.parts-p.ensures.fact_2
    ∙ ap log_of (above_odd b n read wide p)
