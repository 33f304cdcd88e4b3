-- `calls_figures::ratings_as` meets its contract. Assumes nothing.
use Rattle.std.proofs.lemmas.Result.{err_from_is_err_and}
use mathlib.Core.Path.{sym, ap, ◌∙◌}
use mathlib.Core.List.{[]}
use native.Mathlib.Omega.{arith}
use lib.ListN.{length}
use Rattle.chart_fields.specs.declared.Layout.{Layout}
use Rattle.chart_opening.specs.declared.Refusal.TheVariants.{NotFinite}
use Rattle.skills.specs.Chart as Chart
use Rattle.skills_stars.specs.Stars.{ratings_of}
use Rattle.skills_stars.specs.declared.Ratings.{Ratings}
use Rattle.calls.specs.Afresh.{ratings, ratings_are, totals_of, figure_of, count}
use Rattle.calls.specs.Conditions.{lengths}
use Rattle.calls.specs.Calls.{figure_is, outcome_with, cleared}
use Rattle.calls_figures.specs.Answers.{scratch_of}
use Rattle.calls_figures.proofs.Outcomes.{sums, not_finite, all_finite, refused_by_sums, refused_as_asked, worked_out}
use Rattle.calls_figures.proofs.ratings_as.Goals as goal

pub totals-totals-requires : goal.totals-totals-requires
totals-totals-requires c =
    let a = c.args in
    let x = (scratch_of a.aim.now a.aim_no_sliders.now a.speed.now a.flashlight.now) in
    let on = c.in_ok-on.ensures in
    let s = sums a.settings.now a.chart.now (length a.values.now) (lengths x) on.0 in
    (rw on.1 (record { holds = s.holds; rows = s.rows }), s.aim, s.aim_no_sliders, s.speed, s.flashlight)

pub overflow_cast-on : goal.overflow_cast-on
overflow_cast-on c =
    let a = c.args in
    let x = (scratch_of a.aim.now a.aim_no_sliders.now a.speed.now a.flashlight.now) in
    let on = c.in_ok-on.ensures in
    omega (arith, (sums a.settings.now a.chart.now (length a.values.now) (lengths x) on.0).holds.few, ap (λ (l : Layout). l.n) on.1)

pub returns-then-not-is_finite : goal.returns-then-not-is_finite
returns-then-not-is_finite c =
    let a = c.args in
    let x = (scratch_of a.aim.now a.aim_no_sliders.now a.speed.now a.flashlight.now) in
    let on = c.in_ok-on.ensures in
    let s = not_finite a.asked (count a.chart.now) (sym c.is_finite.ensures ∙ c.if-not-is_finite.true) in
    let h = refused_as_asked (ratings a.asked) a.settings.now a.chart.now a.values.now x NotFinite on.0 s in
    record {
      answer = sym h.0;
      scratch = sym h.1;
    }

pub returns-in_err-on : goal.returns-in_err-on
returns-in_err-on c =
    let a = c.args in
    let x = (scratch_of a.aim.now a.aim_no_sliders.now a.speed.now a.flashlight.now) in
    let p = err_from_is_err_and c.from_residual.result c.from_residual.ensures.1 in
    let e = c.in_err-on.ensures in
    let h = refused_by_sums (ratings a.asked) a.settings.now a.chart.now a.values.now x _ e in
    rw (p.1, p.2) (
    record {
      answer = sym h.0;
      scratch = sym h.1;
    }
    )

pub returns : goal.returns
unfolding figure_of totals_of cleared
returns c =
    let a = c.args in
    let x = (scratch_of a.aim.now a.aim_no_sliders.now a.speed.now a.flashlight.now) in
    let on = c.in_ok-on.ensures in
    let h = worked_out (ratings a.asked) a.settings.now a.chart.now a.values.now x on.0 (all_finite a.asked (count a.chart.now) (sym c.is_finite.ensures ∙ c.if-not-is_finite.false)) in
    let t = c.totals-totals.ensures in
    let r = c.eval.ensures ∙ (λ i. ratings_of ((t.result ∙ (λ j. Chart.totals_of a.chart.now (on.1 j) (on.2 j) a.values.now)) i) (on.1 i).n a.asked) in
    record {
      answer = ap (λ (y : Ratings). outcome_with (figure_is (ratings_are y)) a.chart.now [] a.values.now) r ∙ sym h.0;
      scratch = (λ i. scratch_of (t.first i) (t.second i) (t.third i) (t.fourth i)) ∙ sym h.1;
    }
