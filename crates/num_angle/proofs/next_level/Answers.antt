-- `num_angle::next_level` meets its contract: the square of X is not below 0, and Y stays 0. Assumes nothing.
use mathlib.Core.Path.{◌≡◌, sym, ap, ◌∙◌}
use mathlib.Core.Bool.{true, false}
use borrow.Author.Rules.{rules}
use lib.IntN.{pos}
use lib.Signed.{lt_z}
use Rattle.num_angle.specs.Angle.{scaled}
use Rattle.num_angle.proofs.Whole.{back, under_63}
use Rattle.num_angle.proofs.Doubling.{level_up, next_left, next_right}
use Rattle.num_angle.proofs.next_level.Goals as goal

pub rescale-requires : goal.rescale-requires
rescale-requires c =
    let e = c.double.ensures in
    record { sized = e.1; up = rw e.0 (level_up c.args.d c.requires.1) }

pub returns-then-d-lt0 : goal.returns-then-d-lt0
returns-then-d-lt0 c =
    let d = c.args.d in
    let h = c.requires in
    let t : lt_z d.x (pos 0) ≡ true = rw (back d.x (under_63 h.0.sized.x)) at c.if-d-lt0.true in
    (sym (next_left d h.1 t), h.0, search rules)

pub returns-else-d-lt0 : goal.returns-else-d-lt0
returns-else-d-lt0 c =
    let d = c.args.d in
    let h = c.requires in
    let t : lt_z d.x (pos 0) ≡ false = rw (back d.x (under_63 h.0.sized.x)) at c.if-d-lt0.false in
    let e = c.rescale.ensures.0 ∙ ap scaled c.double.ensures.0 in
    ((λ i. record { bit = 0; dir = e i }) ∙ sym (next_right d h.1 t), c.rescale.ensures.1, search rules)
