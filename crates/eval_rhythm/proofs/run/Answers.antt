-- `eval_rhythm::run` meets its contract. Assumes nothing.
use Prim.Native.Nat.{◌+◌, ◌-◌}
use mathlib.Core.Path.{◌≡◌, sym, ap, subst, ◌∙◌}
use native.Mathlib.Omega.{arith}
use Rattle.osu_object.specs.Osu.{object_of}
use Rattle.osu_records.specs.Part.{part_at}
use Rattle.eval_rhythm.specs.Step.{Walk, walk_of}
use Rattle.eval_rhythm.specs.Rhythm.{cells_at}
use Rattle.eval_rhythm.proofs.Good.{Good, good_mono, good_fresh, good_step}
use Rattle.eval_rhythm.proofs.History.{run_turn, run_end, run_none, count_end, count_none, cell_here, cell_back, fresh_walk_lem}
use Rattle.eval_rhythm.proofs.Laws.{few_steps}
use Rattle.eval_rhythm.proofs.Bounded.{count_room}
use Rattle.eval_rhythm.proofs.run.Goals as goal

pub returns-then-from-lt1 : goal.returns-then-from-lt1
returns-then-from-lt1 c = (run_none _ _ _ _ c.args.from (omega arith), count_none _ _ _ _ c.args.from (omega arith))

pub loop-k-init : goal.loop-k-init
loop-k-init c =
    let e = fresh_walk_lem c.args.eps c.new-s.result c.new-counts.result c.new-s.ensures c.new-counts.ensures in record {
      good = rw e (good_mono 0 _ _ (omega arith) (good_fresh _));
      prev = c.cell_at-prev.ensures;
      last = c.cell_at-last.ensures;
      rest = rw e;
      count = rw e (omega arith);
    }

pub turn-turn-requires : goal.turn-turn-requires
turn-turn-requires c =
    let g = good_mono _ 31 _ (few_steps c.args.from c.loop-k.k c.args.hist c.requires.3 c.requires.6) c.loop-k.invariant.good in
    (omega (arith, g.few), g.island_ok, g.prev_ok, λ h. g.counts_ok_lem.at _)

pub overflow_add-comparisons : goal.overflow_add-comparisons
overflow_add-comparisons c =
    let a = c.args in
    let l = c.loop-k in
    let e : l.k - 1 + 1 ≡ l.k = omega (arith, c.loop-k-test.true) in
    let turn =
    run_turn (cells_at (object_of c.args.chart.now c.args.lay) (part_at c.args.t.now c.args.part) c.args.j) a.hist _ _ l.k _ _ _ _ _ _ _ l.comparisons c.turn-turn.result.compared c.loop-k-test.true
    (cell_here (object_of c.args.chart.now c.args.lay) (part_at c.args.t.now c.args.part) c.args.j _ c.requires.5)
    (cell_back (object_of c.args.chart.now c.args.lay) (part_at c.args.t.now c.args.part) c.args.j (l.k - 1 + 1) l.k _ e c.cell_at-curr.ensures) l.invariant.prev l.invariant.last (rw e at c.decay-decay.ensures) c.turn-turn.ensures.turn c.turn-turn.ensures.compared in
    omega (arith, count_room _ _ _ _ a.from l.comparisons c.turn-turn.result.compared _ c.requires.6 c.requires.3 (turn.1 ∙ l.invariant.count))

pub loop-k-preserved : goal.loop-k-preserved
loop-k-preserved c =
    let a = c.args in
    let l = c.loop-k in
    let e : l.k - 1 + 1 ≡ l.k = omega (arith, c.loop-k-test.true) in
    let turn =
    run_turn (cells_at (object_of c.args.chart.now c.args.lay) (part_at c.args.t.now c.args.part) c.args.j) a.hist _ _ l.k _ _ _ _ _ _ _ l.comparisons c.turn-turn.result.compared c.loop-k-test.true
    (cell_here (object_of c.args.chart.now c.args.lay) (part_at c.args.t.now c.args.part) c.args.j _ c.requires.5)
    (cell_back (object_of c.args.chart.now c.args.lay) (part_at c.args.t.now c.args.part) c.args.j (l.k - 1 + 1) l.k _ e c.cell_at-curr.ensures) l.invariant.prev l.invariant.last (rw e at c.decay-decay.ensures) c.turn-turn.ensures.turn c.turn-turn.ensures.compared in record {
      good = subst (λ (w : Walk). Good (a.from - (l.k - 1)) w) (sym c.turn-turn.ensures.turn)
          (good_mono _ _ _ (omega (arith, c.loop-k-test.true)) (good_step _ _ (walk_of l.s l.counts) l.invariant.good _ _ _ _ _));
      prev = c.cell_at-curr.ensures;
      last = cell_back (object_of c.args.chart.now c.args.lay) (part_at c.args.t.now c.args.part) c.args.j (l.k + 1) (l.k - 1 + 2) _ (omega (arith, c.loop-k-test.true)) l.invariant.prev;
      rest = turn.0 ∙ l.invariant.rest;
      count = turn.1 ∙ l.invariant.count;
    }

pub returns : goal.returns
returns c =
    let l = c.loop-k in (
      ap (λ (w : Walk). w.state.sum) (sym (run_end (cells_at (object_of c.args.chart.now c.args.lay) (part_at c.args.t.now c.args.part) c.args.j) c.args.hist _ _ l.k (walk_of l.s l.counts) (omega arith)) ∙ l.invariant.rest),
      count_end (cells_at (object_of c.args.chart.now c.args.lay) (part_at c.args.t.now c.args.part) c.args.j) c.args.hist _ _ l.k (walk_of l.s l.counts) _ _ (omega arith) l.invariant.count,
    )
