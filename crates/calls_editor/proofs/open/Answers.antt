-- `calls_editor::open` meets its contract. Assumes nothing.
use Rattle.std.proofs.lemmas.Result.{err_from_is_err_and}
use lib.ListN.{length}
use mathlib.Core.List.{List}
use mathlib.Core.Path.{sym, ap, ◌∙◌}
use Prim.Native.Nat.{ℕ}
use Rattle.calls.specs.Calls.{state}
use Rattle.calls_players.specs.Second.{open_answer_as, open_leaves_as}
use Rattle.calls_players.proofs.Own.{opening_short, own_opening, own_leaves}
use Rattle.calls_editor.proofs.Outcomes.{opening_is, open_refused}
use Rattle.calls_editor.proofs.open.Goals as goal

pub returns-in_err-own_settings : goal.returns-in_err-own_settings
returns-in_err-own_settings c =
    let a = c.args in
    let p = err_from_is_err_and c.from_residual.result c.from_residual.ensures.1 in
    let s = c.own_settings.ensures.short _ c.in_err-own_settings.was in
    let e = opening_short (length a.records.now) (length a.values.now) a.chart.now s.0 in
    rw (p.1, p.2, s.1) (
    record {
      answer = opening_is a.chart.now a.records.now a.values.now _ (sym e);
      leaves = sym (open_refused a.chart.now a.records.now a.values.now _ e);
    }
    )

pub returns : goal.returns
returns c =
    let a = c.args in
    let st = state a.chart.now a.records.now a.values.now in
    let own = c.own_settings.ensures.own _ c.in_ok-own_settings.was in
    record {
      answer = c.open_as.ensures.answer ∙ (ap (λ (t : List ℕ). open_answer_as t st) own.1 ∙ own_opening st own.0);
      leaves = c.open_as.ensures.leaves ∙ (ap (λ (t : List ℕ). open_leaves_as t st) own.1 ∙ own_leaves st own.0);
    }
