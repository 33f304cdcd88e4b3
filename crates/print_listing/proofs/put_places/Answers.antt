-- `print_listing::put_places` meets its contract: before place j the lines of the places from 1 are put. Assumes nothing.
use borrow.Author.Rules.{rules}
use Prim.Native.Nat.{◌-◌}
use native.Mathlib.Omega.{arith}
use mathlib.Core.Path.{◌≡◌, ap}
use Rattle.print_text.specs.Buffer.{none, same_text}
use Rattle.num_tables.specs.Parts.{row}
use Rattle.print_listing.specs.List.{places_text}
use Rattle.print_listing.proofs.Room.{place_turn}
use Rattle.print_listing.proofs.put_places.Goals as goal

pub loop-j-init : goal.loop-j-init
unfolding places_text
loop-j-init c = (search rules, none _ _)

pub loop-j-preserved : goal.loop-j-preserved
loop-j-preserved c = (search rules, place_turn _ _ c.loop-j.auto.j c.loop-j.invariant.1 c.put_place-end.ensures)

pub returns : goal.returns
returns c =
    let e : c.loop-j.j - 1 ≡ c.args.n - 1 = omega arith in
    same_text (ap (places_text (row 5 c.args.values.now)) e) c.loop-j.invariant.1
