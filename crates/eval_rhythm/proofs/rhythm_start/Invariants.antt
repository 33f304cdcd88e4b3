-- `eval_rhythm::rhythm_start` meets its contract. Assumes nothing.
use Prim.Native.Nat.{◌-◌}
use mathlib.Core.Path.{◌≡◌}
use Rattle.osu_object.specs.Osu.{object_of}
use Rattle.osu_records.specs.Part.{part_at}
use Rattle.eval_rhythm.specs.Rhythm.{cells_at, start_from, start_of}
use Rattle.eval_rhythm.proofs.rhythm_start.Given as goal

abbrev pub invariant-loop-r : goal.invariant-loop-r
invariant-loop-r l = start_from (cells_at (object_of l.chart l.lay) (part_at l.t l.part) l.j) l.hist (l.hist - l.r) l.r ≡ start_of (cells_at (object_of l.chart l.lay) (part_at l.t l.part) l.j) l.hist
