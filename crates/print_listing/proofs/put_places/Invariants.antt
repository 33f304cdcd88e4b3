-- `print_listing::put_places` meets its contract: before place j the lines of the places from 1 are put. Assumes nothing.
use Prim.Native.Nat.{◌-◌, ◌≤◌, max}
use Rattle.print_text.specs.Buffer.{Puts}
use Rattle.num_tables.specs.Parts.{row}
use Rattle.print_listing.specs.List.{places_text}
use Rattle.print_listing.proofs.put_places.Given as goal

abbrev pub invariant-loop-j : goal.invariant-loop-j
invariant-loop-j l = (l.j ≤ max 1 l.n) × Puts (places_text (row 5 l.values) (l.j - 1)) l.initial.out l.at l.out l.end
