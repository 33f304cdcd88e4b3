-- `calls_editor::replace_both` meets its contract. Assumes nothing.
use Rattle.std.proofs.lemmas.Result.{err_from_is_err_and}
use Rattle.calls_players.proofs.Own.{both_kept}
use Rattle.calls_players.specs.Both.{pair}
use Rattle.calls.specs.Conditions.{replace}
use Rattle.chart_players.proofs.Verdicts.{both_accepted}
use Rattle.chart_players.specs.Second.{under, second_verdict, both_verdict}
use Rattle.calls_editor.proofs.Edits.{chart_after, chart_kept}
use Rattle.calls_editor.proofs.Second.{replaced_fits, replaced_fits_second, replace_both_is, replace_both_left}
use Rattle.calls.specs.Calls.{replaced_records, replaced_values, edit_records, edit_values}
use Rattle.chart_replacing.proofs.Accepted.{taken}
use Rattle.chart_replacing.specs.Replace.{replace_verdict}
use Rattle.chart_opening.specs.Header.{settings_of}
use lib.ListN.{length}
use native.Mathlib.Omega.{arith}
use mathlib.Core.Path.{refl, sym, ap, ◌∙◌}
use Rattle.calls_editor.proofs.replace_both.Goals as goal

pub settings_at-set-requires : goal.settings_at-set-requires
settings_at-set-requires c = let a = c.args in let w = both_accepted _ _ ((λ i. both_verdict (replace_verdict a.chart.now a.place a.object.now (sym c.entries_in.ensures i)) (second_verdict a.settings.now a.chart.now (replace_verdict (under a.settings.now a.chart.now) a.place a.object.now (sym c.entries_in-2.ensures i)))) ∙ (sym c.replace_both.ensures.answer ∙ c.in_ok-replace_both.was)) in let f = replaced_fits a.chart.now a.place a.object.now (length a.records.now) (length a.values.now) w.0 in let q = chart_after _ _ _ _ c.replace_both.ensures.chart c.in_ok-replace_both.was in rw q f.0.long

pub replace_rows-requires : goal.replace_rows-requires
replace_rows-requires c = let a = c.args in let w = both_accepted _ _ ((λ i. both_verdict (replace_verdict a.chart.now a.place a.object.now (sym c.entries_in.ensures i)) (second_verdict a.settings.now a.chart.now (replace_verdict (under a.settings.now a.chart.now) a.place a.object.now (sym c.entries_in-2.ensures i)))) ∙ (sym c.replace_both.ensures.answer ∙ c.in_ok-replace_both.was)) in let f = replaced_fits a.chart.now a.place a.object.now (length a.records.now) (length a.values.now) w.0 in let q = chart_after _ _ _ _ c.replace_both.ensures.chart c.in_ok-replace_both.was in rw q f

pub settings_at-second-requires : goal.settings_at-second-requires
settings_at-second-requires c = let a = c.args in let w = both_accepted _ _ ((λ i. both_verdict (replace_verdict a.chart.now a.place a.object.now (sym c.entries_in.ensures i)) (second_verdict a.settings.now a.chart.now (replace_verdict (under a.settings.now a.chart.now) a.place a.object.now (sym c.entries_in-2.ensures i)))) ∙ (sym c.replace_both.ensures.answer ∙ c.in_ok-replace_both.was)) in let f = (replaced_fits_second a.chart.now a.place a.object.now (length a.second_records.now) (length a.second_values.now) a.settings.now (taken a.chart.now a.place a.object.now _ w.0) w.1).1 in omega (arith, f)

pub replace_rows-requires-2 : goal.replace_rows-requires-2
replace_rows-requires-2 c = let a = c.args in let w = both_accepted _ _ ((λ i. both_verdict (replace_verdict a.chart.now a.place a.object.now (sym c.entries_in.ensures i)) (second_verdict a.settings.now a.chart.now (replace_verdict (under a.settings.now a.chart.now) a.place a.object.now (sym c.entries_in-2.ensures i)))) ∙ (sym c.replace_both.ensures.answer ∙ c.in_ok-replace_both.was)) in let f = replaced_fits_second a.chart.now a.place a.object.now (length a.second_records.now) (length a.second_values.now) a.settings.now (taken a.chart.now a.place a.object.now _ w.0) w.1 in let q = chart_after _ _ _ _ c.replace_both.ensures.chart c.in_ok-replace_both.was in rw q f.0

pub returns-in_err-replace_both : goal.returns-in_err-replace_both
returns-in_err-replace_both c =
    let p = err_from_is_err_and c.from_residual.result c.from_residual.ensures.1 in
    rw (p.1, p.2) (
    let a = c.args in let v = (λ i. both_verdict (replace_verdict a.chart.now a.place a.object.now (sym c.entries_in.ensures i)) (second_verdict a.settings.now a.chart.now (replace_verdict (under a.settings.now a.chart.now) a.place a.object.now (sym c.entries_in-2.ensures i)))) ∙ (sym c.replace_both.ensures.answer ∙ c.in_err-replace_both.was) in let q = chart_kept _ _ _ _ c.replace_both.ensures.chart c.in_err-replace_both.was in record {
      answer = replace_both_is a.settings.now a.chart.now a.records.now a.values.now a.second_records.now a.second_values.now a.place a.object.now _ (sym v);
      leaves = (λ i. pair (q i) a.records.now a.values.now a.second_records.now a.second_values.now) ∙ sym (both_kept a.settings.now (replace a.place a.object.now) (pair a.chart.now a.records.now a.values.now a.second_records.now a.second_values.now) _ (sym (replace_both_is a.settings.now a.chart.now a.records.now a.values.now a.second_records.now a.second_values.now a.place a.object.now _ refl) ∙ v));
    }
    )

pub returns : goal.returns
returns c = let a = c.args in let v = (λ i. both_verdict (replace_verdict a.chart.now a.place a.object.now (sym c.entries_in.ensures i)) (second_verdict a.settings.now a.chart.now (replace_verdict (under a.settings.now a.chart.now) a.place a.object.now (sym c.entries_in-2.ensures i)))) ∙ (sym c.replace_both.ensures.answer ∙ c.in_ok-replace_both.was) in let q = chart_after _ _ _ _ c.replace_both.ensures.chart c.in_ok-replace_both.was in let s = c.settings_at-set.ensures ∙ ap settings_of q in let r = c.replace_rows.ensures.records ∙ (λ i. edit_records (s i) (q i) a.place (replaced_records a.place) a.records.now) in let w = c.replace_rows.ensures.values ∙ (λ i. edit_values (s i) (q i) a.place (replaced_values a.place) (r i) a.values.now) in let s2 = c.settings_at-second.ensures in let r2 = c.replace_rows-2.ensures.records ∙ (λ i. edit_records (s2 i) (q i) a.place (replaced_records a.place) a.second_records.now) in let w2 = c.replace_rows-2.ensures.values ∙ (λ i. edit_values (s2 i) (q i) a.place (replaced_values a.place) (r2 i) a.second_values.now) in record {
  answer = replace_both_is a.settings.now a.chart.now a.records.now a.values.now a.second_records.now a.second_values.now a.place a.object.now _ (sym v);
  leaves = (λ i. pair (q i) (r i) (w i) (r2 i) (w2 i)) ∙ sym (replace_both_left a.settings.now a.chart.now a.records.now a.values.now a.second_records.now a.second_values.now a.place a.object.now v);
}
