-- `calls_figures::totals_while_playing_as` meets its contract. Assumes nothing.
use Rattle.std.proofs.lemmas.Result.{err_from_is_err_and}
use Prim.Native.Nat.{◌+◌, ◌/◌}
use mathlib.Core.Path.{sym, ap, ◌∙◌}
use native.Mathlib.Omega.{arith}
use lib.ListN.{length}
use Rattle.num_tables.specs.Parts.{fill}
use Rattle.chart_fields.specs.declared.Layout.{Layout}
use Rattle.chart_opening.specs.declared.Refusal.TheVariants.{Table}
use Rattle.skills_playing.specs.Playing.{row_after}
use Rattle.calls.specs.Tables.{totals_width}
use Rattle.calls.specs.Afresh.{playing, reached_of, count}
use Rattle.calls.specs.Conditions.{lengths}
use Rattle.calls.specs.Calls.{Outcome, cleared, list_after}
use Rattle.calls_figures.specs.Answers.{scratch_of}
use Rattle.calls_figures.proofs.Outcomes.{sums, short_list, long_list, refused_by_sums, refused_as_asked, worked_out, filled, met_by_sums, met_as_asked}
use Rattle.calls_figures.proofs.totals_while_playing_as.Goals as goal

pub totals_while_playing-requires : goal.totals_while_playing-requires
totals_while_playing-requires c =
    let a = c.args in
    let x = (scratch_of a.aim.now a.aim_no_sliders.now a.speed.now a.flashlight.now) in
    let on = c.in_ok-on.ensures in
    let s = sums a.settings.now a.chart.now (length a.values.now) (lengths x) on.0 in
    let n = ap (λ (l : Layout). l.n) on.1 in
    (rw on.1 (record { holds = s.holds; rows = s.rows }), omega (arith, c.if-list-on.false, n), s.aim, s.aim_no_sliders, s.speed, s.flashlight)

pub overflow_add-on : goal.overflow_add-on
overflow_add-on c =
    let a = c.args in
    let x = (scratch_of a.aim.now a.aim_no_sliders.now a.speed.now a.flashlight.now) in
    let on = c.in_ok-on.ensures in
    omega (arith, (sums a.settings.now a.chart.now (length a.values.now) (lengths x) on.0).holds.few, ap (λ (l : Layout). l.n) on.1)

pub returns-then-list-on : goal.returns-then-list-on
unfolding list_after
returns-then-list-on c =
    let a = c.args in
    let x = (scratch_of a.aim.now a.aim_no_sliders.now a.speed.now a.flashlight.now) in
    let on = c.in_ok-on.ensures in
    let n = ap (λ (l : Layout). l.n) on.1 in
    let s = short_list (length a.list.now / totals_width) (count a.chart.now) (omega (arith, c.if-list-on.true, n)) in
    let h = refused_as_asked (playing (length a.list.now / totals_width)) a.settings.now a.chart.now a.values.now x Table on.0 s in
    record {
      answer = sym (met_as_asked (playing (length a.list.now / totals_width)) a.settings.now a.chart.now a.values.now x _ on.0 s);
      list = sym (ap (λ (o : Outcome). list_after o.answer a.list.now) h.0);
      scratch = sym h.1;
    }

pub returns-in_err-on : goal.returns-in_err-on
unfolding list_after
returns-in_err-on c =
    let a = c.args in
    let x = (scratch_of a.aim.now a.aim_no_sliders.now a.speed.now a.flashlight.now) in
    let p = err_from_is_err_and c.from_residual.result c.from_residual.ensures.1 in
    let e = c.in_err-on.ensures in
    let h = refused_by_sums (playing (length a.list.now / totals_width)) a.settings.now a.chart.now a.values.now x _ e in
    rw (p.1, p.2) (
    record {
      answer = sym (met_by_sums (playing (length a.list.now / totals_width)) a.settings.now a.chart.now a.values.now x _ e);
      list = sym (ap (λ (o : Outcome). list_after o.answer a.list.now) h.0);
      scratch = sym h.1;
    }
    )

pub returns : goal.returns
unfolding reached_of cleared
returns c =
    let a = c.args in
    let x = (scratch_of a.aim.now a.aim_no_sliders.now a.speed.now a.flashlight.now) in
    let on = c.in_ok-on.ensures in
    let n = ap (λ (l : Layout). l.n) on.1 in
    let s = long_list (length a.list.now / totals_width) (count a.chart.now) (omega (arith, c.if-list-on.false, n)) in
    let h = worked_out (playing (length a.list.now / totals_width)) a.settings.now a.chart.now a.values.now x on.0 s in
    let t = c.totals_while_playing.ensures in
    let r = t.entries ∙ (λ i. fill totals_width (row_after a.chart.now (on.1 i) (on.2 i) a.values.now) 0 ((on.1 i).n + 1) a.list.now) in
    record {
      answer = sym (met_as_asked (playing (length a.list.now / totals_width)) a.settings.now a.chart.now a.values.now x _ on.0 s);
      list = r ∙ sym (filled a.settings.now a.chart.now a.values.now (length a.list.now / totals_width) a.list.now _ h.0);
      scratch = (λ i. scratch_of (t.first i) (t.second i) (t.third i) (t.fourth i)) ∙ sym h.1;
    }
