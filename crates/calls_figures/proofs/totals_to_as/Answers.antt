-- `calls_figures::totals_to_as` meets its contract. Assumes nothing.
use Rattle.std.proofs.lemmas.Result.{err_from_is_err_and}
use mathlib.Core.Path.{sym, ap, ◌∙◌}
use mathlib.Core.List.{[]}
use native.Mathlib.Omega.{arith}
use lib.ListN.{length}
use Rattle.chart_fields.specs.declared.Layout.{Layout}
use Rattle.chart_opening.specs.declared.Refusal.TheVariants.{Place}
use Rattle.skills.specs.declared.Skills.{Skills}
use Rattle.skills_playing.specs.Playing.{totals_after}
use Rattle.calls.specs.Afresh.{totals_to, totals_are, reached_of, figure_of, count}
use Rattle.calls.specs.Conditions.{lengths}
use Rattle.calls.specs.Calls.{figure_is, outcome_with, cleared}
use Rattle.calls_figures.specs.Answers.{scratch_of}
use Rattle.calls_figures.proofs.Outcomes.{sums, too_many, as_many, refused_by_sums, refused_as_asked, worked_out}
use Rattle.calls_figures.proofs.totals_to_as.Goals as goal

pub totals_to-requires : goal.totals_to-requires
totals_to-requires c =
    let a = c.args in
    let x = (scratch_of a.aim.now a.aim_no_sliders.now a.speed.now a.flashlight.now) in
    let on = c.in_ok-on.ensures in
    let s = sums a.settings.now a.chart.now (length a.values.now) (lengths x) on.0 in
    let n = ap (λ (l : Layout). l.n) on.1 in
    (rw on.1 (record { holds = s.holds; rows = s.rows }), omega (arith, c.if-on-m.false, n), s.aim, s.aim_no_sliders, s.speed, s.flashlight)

pub returns-then-on-m : goal.returns-then-on-m
returns-then-on-m c =
    let a = c.args in
    let x = (scratch_of a.aim.now a.aim_no_sliders.now a.speed.now a.flashlight.now) in
    let on = c.in_ok-on.ensures in
    let n = ap (λ (l : Layout). l.n) on.1 in
    let s = too_many a.m (count a.chart.now) (omega (arith, c.if-on-m.true, n)) in
    let h = refused_as_asked (totals_to a.m) a.settings.now a.chart.now a.values.now x Place on.0 s in
    record {
      answer = sym h.0;
      scratch = sym h.1;
    }

pub returns-in_err-on : goal.returns-in_err-on
returns-in_err-on c =
    let a = c.args in
    let x = (scratch_of a.aim.now a.aim_no_sliders.now a.speed.now a.flashlight.now) in
    let p = err_from_is_err_and c.from_residual.result c.from_residual.ensures.1 in
    let e = c.in_err-on.ensures in
    let h = refused_by_sums (totals_to a.m) a.settings.now a.chart.now a.values.now x _ e in
    rw (p.1, p.2) (
    record {
      answer = sym h.0;
      scratch = sym h.1;
    }
    )

pub returns : goal.returns
unfolding figure_of reached_of cleared
returns c =
    let a = c.args in
    let x = (scratch_of a.aim.now a.aim_no_sliders.now a.speed.now a.flashlight.now) in
    let on = c.in_ok-on.ensures in
    let n = ap (λ (l : Layout). l.n) on.1 in
    let h = worked_out (totals_to a.m) a.settings.now a.chart.now a.values.now x on.0 (as_many a.m (count a.chart.now) (omega (arith, c.if-on-m.false, n))) in
    let t = c.totals_to.ensures in
    let r = t.result ∙ (λ i. totals_after a.chart.now (on.1 i) (on.2 i) a.values.now a.m) in
    record {
      answer = ap (λ (y : Skills). outcome_with (figure_is (totals_are y)) a.chart.now [] a.values.now) r ∙ sym h.0;
      scratch = (λ i. scratch_of (t.first i) (t.second i) (t.third i) (t.fourth i)) ∙ sym h.1;
    }
