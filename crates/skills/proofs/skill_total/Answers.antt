-- `skills::skill_total` meets its contract. Assumes nothing.
use Rattle.skills.specs.Chart.{start_at, delta_at}
use Rattle.skills.specs.Strains.{strain_at, peaks_to}
use Rattle.skills.specs.Value.{difficulty_of}
use Rattle.num_tables.specs.Parts.{row}
use lib.ListN.{take}
use mathlib.Core.Path.{◌≡◌, sym, ap, ◌∙◌}
use Prim.Native.Nat.{◌-◌}
use Rattle.skills.proofs.Local.{one_total_few, total_by_strains}
use Rattle.skills.proofs.skill_total.Goals as goal

pub returns-then-lay-lt2 : goal.returns-then-lay-lt2
returns-then-lay-lt2 c =
    let a = c.args in
    sym (one_total_few (start_at a.chart.now a.lay a.clock) (delta_at a.chart.now a.lay a.clock) (row 5 a.values.now) a.skill a.lay.n c.if-lay-lt2.true)

pub returns : goal.returns
returns c =
    let a = c.args in
    let w = c.walk-count in
    let starts = start_at a.chart.now a.lay a.clock in
    let deltas = delta_at a.chart.now a.lay a.clock in
    let vs = row 5 a.values.now in
    let e : take w.result w.new.peaks ≡ peaks_to a.skill starts (strain_at deltas vs a.skill) (a.lay.n - 1) = w.ensures.1 in
    c.difficulty_of.ensures ∙ ap (difficulty_of a.skill) e ∙ sym (total_by_strains starts deltas vs a.skill a.lay.n c.if-lay-lt2.false)
