-- `calls_figures::counts_as` meets its contract. Assumes nothing.
use Rattle.std.proofs.lemmas.Result.{err_from_is_err_and}
use mathlib.Core.Path.{refl, sym, ap, ◌∙◌}
use mathlib.Core.List.{[]}
use lib.ListN.{length}
use Rattle.chart_opening.specs.Conditions.{first_of}
use Rattle.skills_counts.specs.Chart as Counts
use Rattle.skills_counts.specs.declared.ObjectCounts.{ObjectCounts}
use Rattle.calls.specs.Afresh.{counts, counts_are, counts_of, figure_of}
use Rattle.calls.specs.Conditions.{lengths, asked_conditions}
use Rattle.calls.specs.Calls.{figure_is, outcome_with, cleared}
use Rattle.calls_figures.specs.Answers.{scratch_of}
use Rattle.calls_figures.proofs.Outcomes.{sums, refused_by_sums, worked_out}
use Rattle.calls_figures.proofs.counts_as.Goals as goal

pub counts-requires : goal.counts-requires
counts-requires c =
    let a = c.args in
    let x = (scratch_of a.aim.now a.aim_no_sliders.now a.speed.now a.flashlight.now) in
    let on = c.in_ok-on.ensures in
    let s = sums a.settings.now a.chart.now (length a.values.now) (lengths x) on.0 in
    (rw on.1 (record { holds = s.holds; rows = s.rows }), s.aim, s.aim_no_sliders, s.speed, s.flashlight)

pub returns-in_err-on : goal.returns-in_err-on
returns-in_err-on c =
    let a = c.args in
    let x = (scratch_of a.aim.now a.aim_no_sliders.now a.speed.now a.flashlight.now) in
    let p = err_from_is_err_and c.from_residual.result c.from_residual.ensures.1 in
    let e = c.in_err-on.ensures in
    let h = refused_by_sums counts a.settings.now a.chart.now a.values.now x _ e in
    rw (p.1, p.2) (
    record {
      answer = sym h.0;
      scratch = sym h.1;
    }
    )

pub returns : goal.returns
unfolding asked_conditions first_of figure_of counts_of cleared
returns c =
    let a = c.args in
    let x = (scratch_of a.aim.now a.aim_no_sliders.now a.speed.now a.flashlight.now) in
    let on = c.in_ok-on.ensures in
    let h = worked_out counts a.settings.now a.chart.now a.values.now x on.0 refl in
    let t = c.counts.ensures in
    let r = t.result ∙ (λ i. Counts.counts_of a.chart.now (on.1 i) (on.2 i) a.values.now) in
    record {
      answer = ap (λ (y : ObjectCounts). outcome_with (figure_is (counts_are y)) a.chart.now [] a.values.now) r ∙ sym h.0;
      scratch = (λ i. scratch_of (t.first i) (t.second i) (t.third i) (t.fourth i)) ∙ sym h.1;
    }
