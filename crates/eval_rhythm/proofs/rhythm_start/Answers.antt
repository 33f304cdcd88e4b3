-- `eval_rhythm::rhythm_start` meets its contract. Assumes nothing.
use mathlib.Core.Path.{◌≡◌, sym, ◌∙◌}
use native.Mathlib.Omega.{arith}
use native.Mathlib.Nat.{sub-zero}
use Rattle.osu_object.specs.Osu.{object_of}
use Rattle.osu_records.specs.Part.{part_at}
use Rattle.eval_rhythm.specs.Rhythm.{cells_at, start_of}
use Rattle.eval_rhythm.proofs.History.{near_is, start_more, start_stop, start_done, cell_here}
use Rattle.eval_rhythm.proofs.rhythm_start.Goals as goal

pub loop-r-init : goal.loop-r-init
unfolding start_of
loop-r-init c = rw sub-zero

pub loop-r-preserved : goal.loop-r-preserved
loop-r-preserved c =
    sym (start_more (cells_at (object_of c.args.chart.now c.args.lay) (part_at c.args.t.now c.args.part) c.args.j) c.args.hist c.loop-r.r (omega arith)
    (near_is (cells_at (object_of c.args.chart.now c.args.lay) (part_at c.args.t.now c.args.part) c.args.j) c.args.hist c.loop-r.r _ _ _ (omega arith)
    (cell_here (object_of c.args.chart.now c.args.lay) (part_at c.args.t.now c.args.part) c.args.j _ c.requires.5) c.cell_at-prev.ensures c.if-not-here-prev.false)) ∙ c.loop-r.invariant

pub returns-then-not-here-prev : goal.returns-then-not-here-prev
returns-then-not-here-prev c = (
  sym (start_stop (cells_at (object_of c.args.chart.now c.args.lay) (part_at c.args.t.now c.args.part) c.args.j) c.args.hist c.loop-r.r (omega arith)
      (near_is (cells_at (object_of c.args.chart.now c.args.lay) (part_at c.args.t.now c.args.part) c.args.j) c.args.hist c.loop-r.r _ _ _ (omega arith)
      (cell_here (object_of c.args.chart.now c.args.lay) (part_at c.args.t.now c.args.part) c.args.j _ c.requires.5) c.cell_at-prev.ensures c.if-not-here-prev.true)) ∙ c.loop-r.invariant,
  omega arith,
)

pub returns : goal.returns
returns c =
    let e : c.saturating_sub-most.result ≡ c.loop-r.r = omega arith in
    (rw e (sym (start_done (cells_at (object_of c.args.chart.now c.args.lay) (part_at c.args.t.now c.args.part) c.args.j) c.args.hist c.loop-r.r (omega arith)) ∙ c.loop-r.invariant), omega arith)
