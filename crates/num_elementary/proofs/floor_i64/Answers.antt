-- `num_elementary::floor_i64` meets its contract: what `num_whole::floor` gives is a whole number that an i64 holds. Assumes nothing.
use Rattle.std.proofs.Common.{◌≡◌, sym, ◌∙◌, subst, w64, to_z, of_z}
use lib.Ieee.{Float}
use Rattle.num_whole.specs.ToInt.{reads_back}
use Rattle.num_elementary.specs.Two.{floor_z}
use Rattle.num_elementary.proofs.Floor.{Cast, In, floor_cast}
use Rattle.num_elementary.proofs.floor_i64.Goals as goal
use Rattle.num_elementary.proofs.floor_i64.Goals.{After-floor}

cast : (c : After-floor) → Cast c.floor.result (floor_z c.args.p)
cast c = subst (λ (v : Float). Cast v (floor_z c.args.p)) (sym c.floor.ensures) (floor_cast c.args.p c.requires.0 c.requires.1).0

pub truncating_f64_to_i64-requires : goal.truncating_f64_to_i64-requires
truncating_f64_to_i64-requires c = record { lower_bound = (cast c).asks.0; upper_bound = (cast c).asks.1 }

pub returns : goal.returns
returns c =
    let p = c.args.p in
    let v = c.floor.result in
    let r = c.truncating_f64_to_i64.result in
    let is : to_z w64 (of_z w64 r) ≡ floor_z p = reads_back v r c.truncating_f64_to_i64.ensures ∙ (cast c.before).gives in
    let range = subst In (sym is) (floor_cast p c.requires.0 c.requires.1).1 in
    (is, range.0, range.1)
