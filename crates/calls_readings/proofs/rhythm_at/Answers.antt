-- `calls_readings::rhythm_at` meets its contract. Assumes nothing.
use Rattle.calls_readings.proofs.Details.{placed, rhythm_found}
use Rattle.chart_opening.proofs.Header.{framed}
use Rattle.calls_readings.proofs.rhythm_at.Goals as goal

pub layout_of-lay-requires : goal.layout_of-lay-requires
layout_of-lay-requires c = (framed _ c.requires.frame).long

pub evaluate_counted-requires : goal.evaluate_counted-requires
evaluate_counted-requires c = placed _ _ _ _ c.layout_of-lay.ensures c.requires

pub returns : goal.returns
returns c = let a = c.args in rhythm_found a.chart.now c.layout_of-lay.result a.records.now a.place c.layout_of-lay.ensures a.set _ _ c.evaluate_counted.ensures.0 c.evaluate_counted.ensures.1
