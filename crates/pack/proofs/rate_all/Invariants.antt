-- `pack::rate_all` meets its contract. Assumes nothing.
use mathlib.Core.Path.{◌≡◌}
use lib.ListN.{length}
use Rattle.pack.specs.Pack.{tables}
use Rattle.pack.proofs.Rated.{Rating}
use Rattle.pack.proofs.rate_all.Given as goal

abbrev pub invariant-loop-i : goal.invariant-loop-i
invariant-loop-i l =
    Rating l.asked l.pack l.list l.initial.keys (tables l.initial.records l.initial.values) l.keys (tables l.records l.values) (length l.list) l.i × (length l.keys ≡ length l.initial.keys) × (length l.records ≡ length l.initial.records) × (length l.values ≡ length l.initial.values)
    × (length l.aim ≡ length l.initial.aim) × (length l.aim_no_sliders ≡ length l.initial.aim_no_sliders) × (length l.speed ≡ length l.initial.speed) × (length l.flashlight ≡ length l.initial.flashlight)
