-- `station::join_into` meets its contract. Assumes nothing.
use mathlib.Core.Path.{◌∙◌}
use Rattle.calls_figures.specs.Answers.{scratch_of}
use Rattle.pack.specs.Pack.{tables, buffers}
use Rattle.station.proofs.Ranks.{too_few, enough, enough_leaves}
use Rattle.station.proofs.join_into.Goals as goal

pub returns-then-cramped-list : goal.returns-then-cramped-list
returns-then-cramped-list c =
    let a = c.args in
    let e = too_few a.asked a.pack.now (buffers a.list.now (tables a.records.now a.values.now) (scratch_of a.aim.now a.aim_no_sliders.now a.speed.now a.flashlight.now)) a.cramped c.if-cramped-list.true c.check.ensures.answer in
    record { answer = e.0; leaves = e.1 }

pub returns : goal.returns
returns c =
    let a = c.args in
    let e = c.join.ensures in record {
      answer = e.answer ∙ enough a.asked a.pack.now (buffers a.list.now (tables a.records.now a.values.now) (scratch_of a.aim.now a.aim_no_sliders.now a.speed.now a.flashlight.now)) a.cramped c.if-cramped-list.false;
      leaves = e.leaves ∙ enough_leaves a.asked a.pack.now (buffers a.list.now (tables a.records.now a.values.now) (scratch_of a.aim.now a.aim_no_sliders.now a.speed.now a.flashlight.now)) a.cramped c.if-cramped-list.false;
    }
