-- `skills::strains_into` meets its contract: a turn puts one row of one number. Assumes nothing.
use borrow.Author.Rules.{rules}
use Rattle.skills.proofs.Places.{strained_first, strained_next, strained_done, strained_none}
use Rattle.skills.proofs.strains_into.Goals as goal

pub returns-then-n-lt2 : goal.returns-then-n-lt2
returns-then-n-lt2 c = let a = c.args in strained_none a.chart.now a.lay a.clock a.values.now a.skill a.out.now a.lay.n c.if-n-lt2.true

pub loop-j-init : goal.loop-j-init
loop-j-init c = let a = c.args in strained_first a.chart.now a.lay a.clock a.values.now a.skill a.out.now a.lay.n c.raw_start-raw_last.result c.if-n-lt2.false c.raw_start-raw_last.ensures

pub loop-j-preserved : goal.loop-j-preserved
loop-j-preserved c =
    strained_next _ _ _ _ _ c.loop-j.invariant c.loop-j-test.true (search rules) c.raw_start-raw.result c.raw_start-raw.ensures c.current_strain-current.result c.strain_value_at.result
    c.current_strain-current.ensures c.strain_value_at.ensures

pub returns : goal.returns
returns c = strained_done _ _ _ _ _ c.loop-j.invariant c.loop-j-test.false
