-- `num_angle::next_bit` meets its contract: for a Y above 0 the doubled Y has X's sign. Assumes nothing.
use mathlib.Core.Path.{◌≡◌, sym, ap, ap₂, ◌∙◌}
use mathlib.Core.Bool.{cond}
use lib.IntN.{ℤ, pos}
use lib.Signed.{le_z}
use Rattle.num_angle.specs.declared.Dir.{Dir}
use Rattle.num_angle.specs.Angle.{scaled, negated}
use Rattle.num_angle.proofs.Whole.{back, under_63, zero_bits, positive_bits}
use Rattle.num_angle.proofs.Doubling.{low, raised, raised_up, next_above, bit_of, bit_small}
use Rattle.num_angle.proofs.next_bit.Goals as goal
use Rattle.num_angle.proofs.next_bit.Goals.{After-raised}

-- the doubled direction, negated where the bit is 1
lifted : (c : After-raised) → c.raised.result ≡ raised c.args.d
lifted c =
    let X = back c.args.d.x (under_63 c.requires.sized.x) in
    c.raised.ensures.0 ∙ ap₂ (λ (z : ℤ) (e : Dir). cond (le_z z (pos 0)) (negated e) e) X c.double.ensures.0

pub next_level-requires : goal.next_level-requires
next_level-requires c =
    let h = c.requires in
    (h, zero_bits c.args.d.y (under_63 h.sized.y) c.if-d-eq0.true)

pub rescale-e-requires : goal.rescale-e-requires
rescale-e-requires c =
    let d = c.args.d in
    record { sized = c.raised.ensures.1; up = rw (lifted c) (raised_up d (positive_bits d.y c.requires.up c.if-d-eq0.false)) }

pub overflow_cast-result : goal.overflow_cast-result
overflow_cast-result c = tt

pub returns : goal.returns
returns c =
    let d = c.args.d in
    let h = c.requires in
    let e = c.rescale-e.ensures.0 ∙ ap scaled (lifted c.before) in
    let a = positive_bits d.y h.up c.if-d-eq0.false in
    rw (back d.x (under_63 h.sized.x))
    ((λ i. record { bit = bit_of (low d) i; dir = e i }) ∙ sym (next_above d a), c.rescale-e.ensures.1, bit_small (low d))
