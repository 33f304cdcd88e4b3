-- `num_angle::rescale` meets its contract: both sizes are below 2^n, and their signs are put back. Assumes nothing.
use Prim.Native.Nat.{ℕ, max}
use mathlib.Core.Path.{◌≡◌, ap, ap₂, ◌∙◌}
use lib.IntN.{pos, nat_abs}
use lib.Signed.{lt_z}
use lib.Ieee.{size}
use mir.Facts.{to_z_pos}
use mir.Syntax.{w64}
use Rattle.num_angle.proofs.Whole.{back, under_63, signed, abs_signed}
use Rattle.num_angle.proofs.Sizes.{first_under, second_under}
use Rattle.num_angle.proofs.Scaling.{rescaled}
use Rattle.num_angle.proofs.rescale.Goals as goal

-- the digits of both sizes, once they are counted
count : (x y a b m n : ℕ) → n ≡ size m → m ≡ max a b → a ≡ x → b ≡ y → n ≡ size (max x y)
count x y a b m n en em ea eb = en ∙ ap size (em ∙ ap₂ max ea eb)

pub size_to_31-requires : goal.size_to_31-requires
size_to_31-requires c =
    let d = c.args.d in
    let a-is : c.unsigned_abs-a.result ≡ nat_abs d.x = rw (back d.x c.requires.sized.x) at c.unsigned_abs-a.ensures.value in
    let n-is : c.digits-n.result ≡ size (max (nat_abs d.x) (nat_abs d.y)) = count _ _ _ _ _ _ c.digits-n.ensures.0 c.max.ensures a-is (ap nat_abs (back d.y c.requires.sized.y)) in
    rw a-is (first_under _ _ _ n-is)

pub size_to_31-requires-2 : goal.size_to_31-requires-2
size_to_31-requires-2 c =
    let d = c.args.d in
    let a-is : c.unsigned_abs-a.result ≡ nat_abs d.x = rw (back d.x c.requires.sized.x) at c.unsigned_abs-a.ensures.value in
    let n-is : c.digits-n.result ≡ size (max (nat_abs d.x) (nat_abs d.y)) = count _ _ _ _ _ _ c.digits-n.ensures.0 c.max.ensures a-is (ap nat_abs (back d.y c.requires.sized.y)) in
    rw (back d.y c.requires.sized.y) (second_under _ _ _ n-is)

pub returns : goal.returns
returns c =
    let d = c.args.d in
    let a-is : c.unsigned_abs-a.result ≡ nat_abs d.x = rw (back d.x c.requires.sized.x) at c.unsigned_abs-a.ensures.value in
    let n-is : c.digits-n.result ≡ size (max (nat_abs d.x) (nat_abs d.y)) = count _ _ _ _ _ _ c.digits-n.ensures.0 c.max.ensures a-is (ap nat_abs (back d.y c.requires.sized.y)) in
    let h = c.requires in
    let X = back d.x h.sized.x in
    let Y = back d.y h.sized.y in
    let n = c.digits-n.result in
    let s = c.size_to_31 in
    let t = c.size_to_31-2 in
    let a = s.result in
    let neg = lt_z d.x (pos 0) in
    let e : c.with_sign.result ≡ signed neg a = rw X at c.with_sign.ensures in
    rw (e, back (signed neg a) (rw (abs_signed neg a) (under_63 s.ensures.1)), to_z_pos w64 (under_63 t.ensures.1))
    (rescaled d h.up n a t.result n-is (rw a-is at s.ensures) (rw Y at t.ensures))
