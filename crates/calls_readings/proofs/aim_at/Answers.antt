-- `calls_readings::aim_at` meets its contract: the value is what the parts come to. Assumes nothing.
use Rattle.chart_opening.proofs.Header.{framed}
use Rattle.calls_readings.proofs.Details.{placed, aim_found}
use Rattle.calls_readings.proofs.aim_at.Goals as goal

pub layout_of-lay-requires : goal.layout_of-lay-requires
layout_of-lay-requires c = (framed _ c.requires.frame).long

pub parts_place-parts-requires : goal.parts_place-parts-requires
parts_place-parts-requires c = placed _ _ _ _ c.layout_of-lay.ensures c.requires

pub parts_place-parts_no_sliders-requires : goal.parts_place-parts_no_sliders-requires
parts_place-parts_no_sliders-requires c = placed _ _ _ _ c.layout_of-lay.ensures c.requires

pub returns : goal.returns
returns c =
    aim_found c.args.chart.now c.layout_of-lay.result c.args.records.now c.args.place c.layout_of-lay.ensures _ _ _ _
    c.parts_place-parts.ensures c.parts_place-parts_no_sliders.ensures c.combine.ensures c.combine-2.ensures
