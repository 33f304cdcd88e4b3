-- `calls_figures::totals_while_playing` meets its contract. Assumes nothing.
use Rattle.std.proofs.lemmas.Result.{err_from_is_err_and}
use mathlib.Core.Path.{sym, ap, ◌∙◌}
use Prim.Native.Nat.{ℕ, ◌/◌}
use mathlib.Core.List.{List, []}
use lib.ListN.{length}
use Rattle.calls.specs.Tables.{totals_width}
use Rattle.calls.specs.Afresh.{playing}
use Rattle.calls.specs.Conditions.{lengths, figure}
use Rattle.calls.specs.Calls.{Outcome, state, list_after}
use Rattle.calls_players.specs.Second.{verdict_as}
use Rattle.calls_players.proofs.Own.{verdict_short, own_verdict}
use Rattle.calls_figures.specs.Answers.{scratch_of}
use Rattle.calls_figures.proofs.Outcomes.{short_chart, own_figure}
use Rattle.calls_figures.proofs.totals_while_playing.Goals as goal

pub returns-in_err-own_settings : goal.returns-in_err-own_settings
unfolding list_after
returns-in_err-own_settings c =
    let a = c.args in
    let p = err_from_is_err_and c.from_residual.result c.from_residual.ensures.1 in
    let s = c.own_settings.ensures.short _ c.in_err-own_settings.was in
    let x = (scratch_of a.aim.now a.aim_no_sliders.now a.speed.now a.flashlight.now) in
    let h = short_chart (playing (length a.list.now / totals_width)) a.chart.now a.values.now x s.0 in
    rw (p.1, p.2, s.1) (
    record {
      answer = sym (verdict_short (figure (playing (length a.list.now / totals_width)) (lengths x)) (state a.chart.now [] a.values.now) s.0);
      list = sym (ap (λ (o : Outcome). list_after o.answer a.list.now) h.0);
      scratch = sym h.1;
    }
    )

pub returns : goal.returns
returns c =
    let a = c.args in
    let x = (scratch_of a.aim.now a.aim_no_sliders.now a.speed.now a.flashlight.now) in
    let own = c.own_settings.ensures.own _ c.in_ok-own_settings.was in
    let h = own_figure (playing (length a.list.now / totals_width)) a.chart.now a.values.now x _ own in
    let t = c.totals_while_playing_as.ensures in
    record {
      answer = t.answer
          ∙ (ap (λ (u : List ℕ). verdict_as u (figure (playing (length a.list.now / totals_width)) (lengths x)) (state a.chart.now [] a.values.now)) own.1
          ∙ own_verdict (state a.chart.now [] a.values.now) own.0 (figure (playing (length a.list.now / totals_width)) (lengths x)));
      list = t.list ∙ ap (λ (o : Outcome). list_after o.answer a.list.now) h.0;
      scratch = t.scratch ∙ h.1;
    }
