-- `skills::alike_totals` meets its contract. Assumes nothing.
use native.Mathlib.Omega.{arith}
use Prim.Native.Nat.{◌-◌}
use mathlib.Core.Path.{◌≡◌, sym, ap, ◌∙◌}
use lib.ListN.{take}
use lib.Seq.{length-take-le}
use Rattle.num_tables.specs.Parts.{row}
use Rattle.skills.specs.declared.Skill.TheVariants.{Aim, AimNoSliders, Flashlight}
use Rattle.skills.specs.Chart.{start_at, delta_at}
use Rattle.skills.specs.Strains.{strain_at, peaks_to}
use Rattle.skills.specs.Value.{difficulty_of}
use Rattle.skills.proofs.Local.{one_total_few, total_by_strains}
use Rattle.skills.proofs.alike_totals.Goals as goal

pub returns-then-lay-lt2 : goal.returns-then-lay-lt2
returns-then-lay-lt2 c =
    let a = c.args in
    let starts = start_at a.chart.now a.lay a.clock in
    let deltas = delta_at a.chart.now a.lay a.clock in
    let vs = row 5 a.values.now in (
      sym (one_total_few starts deltas vs Aim a.lay.n c.if-lay-lt2.true),
      sym (one_total_few starts deltas vs AimNoSliders a.lay.n c.if-lay-lt2.true),
      sym (one_total_few starts deltas vs Flashlight a.lay.n c.if-lay-lt2.true),
    )

pub slice_bounds-difficulty_of-end-3 : goal.slice_bounds-difficulty_of-end-3
slice_bounds-difficulty_of-end-3 c = let w = c.walk_three-peaks in omega (arith, w.ensures.light.0, w.auto.flashlight, c.requires.3)

pub difficulty_of-requires-3 : goal.difficulty_of-requires-3
difficulty_of-requires-3 c =
    let w = c.walk_three-peaks in
    let few = w.ensures.light.0 in
    let long = w.auto.flashlight in
    omega (arith, length-take-le w.result.flashlight w.new.flashlight (omega (arith, few, long, c.requires.3)), few, c.difficulty_of-2.auto.tmp, c.difficulty_of.auto.tmp, c.requires.4)

pub returns : goal.returns
returns c =
    let a = c.args in
    let w = c.walk_three-peaks in
    let starts = start_at a.chart.now a.lay a.clock in
    let deltas = delta_at a.chart.now a.lay a.clock in
    let vs = row 5 a.values.now in
    let e : take w.result.aim w.new.aim ≡ peaks_to Aim starts (strain_at deltas vs Aim) (a.lay.n - 1) = w.ensures.aim.1 in
    let f : take w.result.aim_no_sliders w.new.aim_no_sliders ≡ peaks_to AimNoSliders starts (strain_at deltas vs AimNoSliders) (a.lay.n - 1) = w.ensures.plain.1 in
    let g : take w.result.flashlight w.new.flashlight ≡ peaks_to Flashlight starts (strain_at deltas vs Flashlight) (a.lay.n - 1) = w.ensures.light.1 in
    let many = c.if-lay-lt2.false in (
      c.difficulty_of.ensures ∙ (ap (difficulty_of Aim) e ∙ sym (total_by_strains starts deltas vs Aim a.lay.n many)),
      c.difficulty_of-2.ensures ∙ (ap (difficulty_of AimNoSliders) f ∙ sym (total_by_strains starts deltas vs AimNoSliders a.lay.n many)),
      c.difficulty_of-3.ensures ∙ (ap (difficulty_of Flashlight) g ∙ sym (total_by_strains starts deltas vs Flashlight a.lay.n many)),
    )
