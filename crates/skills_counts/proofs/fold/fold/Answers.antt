-- `skills_counts::fold::fold` meets its contract: what it holds before place j is joined of the places before. Assumes nothing.
use Rattle.skills_counts.proofs.Folding.{folding_first, folding_kept, folding_left, folding_done, folding_none}
use Rattle.std.proofs.Common.{sym, ◌∙◌}
use Rattle.skills_counts.proofs.fold.fold.Goals as goal
use Rattle.skills_counts.proofs.fold.fold.Goals.{then-keeps, else-keeps}

pub returns-then-lay-lt2 : goal.returns-then-lay-lt2
returns-then-lay-lt2 g c = let a = c.args in folding_none a.chart.now a.lay a.clock a.values.now a.skill a.of _ a.from a.lay.n c.if-lay-lt2.true

pub loop-j-init : goal.loop-j-init
loop-j-init g c =
    let a = c.args in
    folding_first a.chart.now a.lay a.clock a.values.now a.skill a.of _ a.from a.lay.n c.place_zero-place.result c.place_zero-place.ensures

pub loop-j-preserved : goal.loop-j-preserved
loop-j-preserved g c =
    let m = c.loop-j.invariant in
    let h = c.loop-j-test.true in
    let p = c.next-place in
    elim c.if-keeps.branch [
      | then-keeps w ↦ rw w.to-is (folding_kept _ _ _ _ _ _ _ _ _ m h p.result p.ensures (sym w.if-keeps.true ∙ c.keeps.ensures) w.join-to.result w.join-to.ensures)
      | else-keeps w ↦ rw w.to-is (folding_left _ _ _ _ _ _ _ _ _ m h p.result p.ensures (sym w.if-keeps.false ∙ c.keeps.ensures))
    ]

pub returns : goal.returns
returns g c = folding_done _ _ _ _ _ _ _ _ _ c.loop-j.invariant c.loop-j-test.false
