-- `calls_editor::open_as` meets its contract. Assumes nothing.
use Rattle.std.proofs.lemmas.Result.{err_from_is_err_and}
use Rattle.calls_editor.proofs.Second.{open_as_is, open_as_refused, open_as_accepted}
use Rattle.calls_editor.proofs.Fits.{fits_as}
use Rattle.calls.specs.Calls.{state, open_records, open_values}
use Rattle.chart_players.specs.Second.{under, second_verdict}
use Rattle.chart_opening.specs.declared.Settings.{Settings}
use Rattle.chart_opening.specs.Conditions.{open_verdict}
use lib.ListN.{length}
use native.Mathlib.Omega.{arith}
use Prim.Native.Nat.{ℕ}
use mathlib.Core.Path.{sym, ap, ◌∙◌}
use Rattle.calls_editor.proofs.open_as.Goals as goal

pub settings_at-requires : goal.settings_at-requires
settings_at-requires c = let a = c.args in let s = (fits_as a.settings.now a.chart.now (length a.records.now) (length a.values.now) (ap (λ (n : ℕ). second_verdict a.settings.now a.chart.now (open_verdict (under a.settings.now a.chart.now) n)) (sym c.entries_in.ensures) ∙ (sym c.check_as.ensures ∙ c.in_ok-check_as.was))).1 in omega (arith, s)

pub fill_tables-requires : goal.fill_tables-requires
fill_tables-requires c = let a = c.args in (fits_as a.settings.now a.chart.now (length a.records.now) (length a.values.now) (ap (λ (n : ℕ). second_verdict a.settings.now a.chart.now (open_verdict (under a.settings.now a.chart.now) n)) (sym c.entries_in.ensures) ∙ (sym c.check_as.ensures ∙ c.in_ok-check_as.was))).0

pub returns-in_err-check_as : goal.returns-in_err-check_as
returns-in_err-check_as c =
    let p = err_from_is_err_and c.from_residual.result c.from_residual.ensures.1 in
    rw (p.1, p.2) (
    let a = c.args in let v = ap (λ (n : ℕ). second_verdict a.settings.now a.chart.now (open_verdict (under a.settings.now a.chart.now) n)) (sym c.entries_in.ensures) ∙ (sym c.check_as.ensures ∙ c.in_err-check_as.was) in record {
      answer = open_as_is a.settings.now a.chart.now a.records.now a.values.now _ (sym v);
      leaves = sym (open_as_refused a.settings.now a.chart.now a.records.now a.values.now _ v);
    }
    )

pub returns : goal.returns
returns c = let a = c.args in let v = ap (λ (n : ℕ). second_verdict a.settings.now a.chart.now (open_verdict (under a.settings.now a.chart.now) n)) (sym c.entries_in.ensures) ∙ (sym c.check_as.ensures ∙ c.in_ok-check_as.was) in let s = c.settings_at.ensures in let r = c.fill_tables.ensures.records ∙ ap (λ (x : Settings). open_records x a.chart.now a.records.now) s in record {
  answer = open_as_is a.settings.now a.chart.now a.records.now a.values.now _ (sym v);
  leaves = (λ i. state a.chart.now (r i) ((c.fill_tables.ensures.values ∙ (λ j. open_values (s j) a.chart.now (r j) a.values.now)) i)) ∙ sym (open_as_accepted a.settings.now a.chart.now a.records.now a.values.now v);
}
