-- `eval_rhythm::run` meets its contract. Assumes nothing.
use Prim.Native.Nat.{◌+◌, ◌-◌}
use mathlib.Core.Path.{◌≡◌}
use Rattle.osu_object.specs.Osu.{object_of}
use Rattle.osu_records.specs.Part.{part_at}
use Rattle.eval_rhythm.specs.Step.{walk_of, fresh_walk}
use Rattle.eval_rhythm.specs.Rhythm.{cells_at, run_of}
use Rattle.eval_rhythm.specs.Comparisons.{comparisons_from}
use Rattle.eval_rhythm.proofs.Good.{Good}
use Rattle.eval_rhythm.proofs.run.Given as goal

-- with k turns to go, the two cells behind the next one are kept
abbrev pub invariant-loop-k : goal.invariant-loop-k
invariant-loop-k l = record {
  good : Good (l.from - l.k) (walk_of l.s l.counts);
  prev : l.prev ≡ cells_at (object_of l.chart l.lay) (part_at l.t l.part) l.j (l.k + 1);
  last : l.last ≡ cells_at (object_of l.chart l.lay) (part_at l.t l.part) l.j (l.k + 2);
  rest : run_of (cells_at (object_of l.chart l.lay) (part_at l.t l.part) l.j) l.hist l.window l.eps l.k (walk_of l.s l.counts)
      ≡ run_of (cells_at (object_of l.chart l.lay) (part_at l.t l.part) l.j) l.hist l.window l.eps l.from (fresh_walk l.eps);
  count : l.comparisons + comparisons_from (cells_at (object_of l.chart l.lay) (part_at l.t l.part) l.j) l.hist l.window l.eps l.k (walk_of l.s l.counts)
      ≡ comparisons_from (cells_at (object_of l.chart l.lay) (part_at l.t l.part) l.j) l.hist l.window l.eps l.from (fresh_walk l.eps);
}
