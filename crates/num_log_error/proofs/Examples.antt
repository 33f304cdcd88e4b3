-- Examples of `log-within`: powers of two, at which L is exact (`log-two`), and two with L as a number, b = 3 and b = 2^-1074, the smallest f64 above zero. Assumes nothing.
use Rattle.std.specs.Prelude.{◌≡◌, refl, false, ◌*◌, ◌^◌, ◌≤◌, ◌<◌, T, ℤ, pos, negsuc, ◌+ℤ◌, ◌*ℤ◌, Float}
use Rattle.std.proofs.Common.{sym, ap, ◌∙◌, subst, add-zero, lit<, pow_pos}
use Rattle.std.specs.Float.{fin, binary64}
use Rattle.std.specs.Float.Ieee.{size, fits}
use Rattle.num_elementary.specs.Log.{log_of, log_bits}
use Rattle.num_elementary.specs.Signed.{add_negsuc_pos, negsuc_diff}
use Rattle.num_log_error.specs.Within.{Within}
use Rattle.num_log_error.proofs.LogError.{log_within}
use Rattle.num_log_error.proofs.Readings.{not_below-zero, minus_more}

plus_zero : (z : ℤ) → z +ℤ pos 0 ≡ z
plus_zero (pos n) = ap pos (add-zero n)
plus_zero (negsuc n) = add_negsuc_pos n 0 ∙ sym (negsuc_diff n)

-- L of 2^e is e × 2^40
pub log_two : (e : ℤ) → log_of (fin false 1 e) ≡ e *ℤ pos (2 ^ 40)
unfolding log_of log_bits size
log_two e = ap (λ (z : ℤ). z *ℤ pos (2 ^ 40) +ℤ pos 0) (plus_zero e) ∙ plus_zero (e *ℤ pos (2 ^ 40))

abbrev three : Float
three = fin false 3 (pos 0)

abbrev smallest : Float
smallest = fin false 1 (negsuc 1073)

log_three : log_of three ≡ pos 1742684699131
unfolding log_of log_bits size
log_three = refl

three_fits : T (fits binary64 three)
unfolding fits
three_fits = tt

pub within_three : (2 ^ 1742684699131 * 1 ^ (2 ^ 40) ≤ 3 ^ (2 ^ 40)) × (3 ^ (2 ^ 40) < 2 ^ 1742684699133 * 1 ^ (2 ^ 40))
within_three = not_below-zero 3 1 1742684699131 (subst (Within 3 1) log_three (log_within three three_fits tt 3 1 (lit< tt) (refl, refl)))

-- 1074 * 2^40 = 1180875488231424
log_smallest : log_of smallest ≡ negsuc 1180875488231423
unfolding log_of log_bits size
log_smallest = refl

smallest_fits : T (fits binary64 smallest)
unfolding fits
smallest_fits = tt

pub within_smallest : ((2 ^ 1074) ^ (2 ^ 40) ≤ 2 ^ 1180875488231424 * 1 ^ (2 ^ 40)) × (2 ^ 1180875488231422 * 1 ^ (2 ^ 40) < (2 ^ 1074) ^ (2 ^ 40))
within_smallest = minus_more 1 (2 ^ 1074) 1180875488231421 (subst (Within 1 (2 ^ 1074)) log_smallest (log_within smallest smallest_fits tt 1 (2 ^ 1074) (pow_pos 1074) (refl, refl)))
