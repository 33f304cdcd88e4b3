-- `calls_editor::insert_both` meets its contract. Assumes nothing.
use Rattle.std.proofs.lemmas.Result.{err_from_is_err_and}
use Rattle.calls_players.proofs.Own.{both_kept}
use Rattle.calls_players.specs.Both.{pair}
use Rattle.calls.specs.Conditions.{insert}
use Rattle.chart_players.proofs.Verdicts.{both_accepted}
use Rattle.chart_players.specs.Second.{under, second_verdict, both_verdict}
use Rattle.calls_editor.proofs.Second.{count_less}
use Rattle.calls_editor.proofs.Edits.{chart_after, chart_kept}
use Rattle.calls_editor.proofs.Second.{inserted_fits, inserted_fits_second, insert_both_is, insert_both_left}
use Rattle.calls.specs.Calls.{first_moved, inserted_records, inserted_values, edit_records, edit_values}
use Rattle.calls.proofs.Moving.{inserted_more}
use Rattle.chart_inserting.proofs.Accepted.{inserted}
use Rattle.chart_inserting.specs.Insert.{insert_verdict}
use Rattle.calls.specs.Tables.{record_width, value_width}
use Rattle.num_tables.specs.Parts.{rows_up}
use Rattle.chart_opening.specs.Header.{layout_of, settings_of}
use lib.ListN.{length}
use mathlib.Core.List.{List}
use native.Mathlib.Omega.{arith}
use Prim.Native.Nat.{ℕ, ◌-◌}
use mathlib.Core.Path.{refl, sym, ap, ◌∙◌}
use Rattle.calls_editor.proofs.insert_both.Goals as goal

pub settings_at-set-requires : goal.settings_at-set-requires
settings_at-set-requires c = let a = c.args in let w = both_accepted _ _ ((λ i. both_verdict (insert_verdict a.chart.now a.place a.object.now (sym c.entries_in.ensures i)) (second_verdict a.settings.now a.chart.now (insert_verdict (under a.settings.now a.chart.now) a.place a.object.now (sym c.entries_in-2.ensures i)))) ∙ (sym c.insert_both.ensures.answer ∙ c.in_ok-insert_both.was)) in let f = inserted_fits a.chart.now a.place a.object.now (length a.records.now) (length a.values.now) w.0 in let q = chart_after _ _ _ _ c.insert_both.ensures.chart c.in_ok-insert_both.was in rw q f.0.long

pub insert_rows-requires : goal.insert_rows-requires
insert_rows-requires c = let a = c.args in let w = both_accepted _ _ ((λ i. both_verdict (insert_verdict a.chart.now a.place a.object.now (sym c.entries_in.ensures i)) (second_verdict a.settings.now a.chart.now (insert_verdict (under a.settings.now a.chart.now) a.place a.object.now (sym c.entries_in-2.ensures i)))) ∙ (sym c.insert_both.ensures.answer ∙ c.in_ok-insert_both.was)) in let f = inserted_fits a.chart.now a.place a.object.now (length a.records.now) (length a.values.now) w.0 in let q = chart_after _ _ _ _ c.insert_both.ensures.chart c.in_ok-insert_both.was in rw q f

pub settings_at-second-requires : goal.settings_at-second-requires
settings_at-second-requires c = let a = c.args in let w = both_accepted _ _ ((λ i. both_verdict (insert_verdict a.chart.now a.place a.object.now (sym c.entries_in.ensures i)) (second_verdict a.settings.now a.chart.now (insert_verdict (under a.settings.now a.chart.now) a.place a.object.now (sym c.entries_in-2.ensures i)))) ∙ (sym c.insert_both.ensures.answer ∙ c.in_ok-insert_both.was)) in let f = (inserted_fits_second a.chart.now a.place a.object.now (length a.second_records.now) (length a.second_values.now) a.settings.now (inserted a.chart.now a.place a.object.now _ w.0) w.1).1 in omega (arith, f)

pub insert_rows-requires-2 : goal.insert_rows-requires-2
insert_rows-requires-2 c = let a = c.args in let w = both_accepted _ _ ((λ i. both_verdict (insert_verdict a.chart.now a.place a.object.now (sym c.entries_in.ensures i)) (second_verdict a.settings.now a.chart.now (insert_verdict (under a.settings.now a.chart.now) a.place a.object.now (sym c.entries_in-2.ensures i)))) ∙ (sym c.insert_both.ensures.answer ∙ c.in_ok-insert_both.was)) in let f = inserted_fits_second a.chart.now a.place a.object.now (length a.second_records.now) (length a.second_values.now) a.settings.now (inserted a.chart.now a.place a.object.now _ w.0) w.1 in let q = chart_after _ _ _ _ c.insert_both.ensures.chart c.in_ok-insert_both.was in rw q f.0

pub returns-in_err-insert_both : goal.returns-in_err-insert_both
returns-in_err-insert_both c =
    let p = err_from_is_err_and c.from_residual.result c.from_residual.ensures.1 in
    rw (p.1, p.2) (
    let a = c.args in let v = (λ i. both_verdict (insert_verdict a.chart.now a.place a.object.now (sym c.entries_in.ensures i)) (second_verdict a.settings.now a.chart.now (insert_verdict (under a.settings.now a.chart.now) a.place a.object.now (sym c.entries_in-2.ensures i)))) ∙ (sym c.insert_both.ensures.answer ∙ c.in_err-insert_both.was) in let q = chart_kept _ _ _ _ c.insert_both.ensures.chart c.in_err-insert_both.was in record {
      answer = insert_both_is a.settings.now a.chart.now a.records.now a.values.now a.second_records.now a.second_values.now a.place a.object.now _ (sym v);
      leaves = (λ i. pair (q i) a.records.now a.values.now a.second_records.now a.second_values.now) ∙ sym (both_kept a.settings.now (insert a.place a.object.now) (pair a.chart.now a.records.now a.values.now a.second_records.now a.second_values.now) _ (sym (insert_both_is a.settings.now a.chart.now a.records.now a.values.now a.second_records.now a.second_values.now a.place a.object.now _ refl) ∙ v));
    }
    )

pub returns : goal.returns
returns c = let a = c.args in let v = (λ i. both_verdict (insert_verdict a.chart.now a.place a.object.now (sym c.entries_in.ensures i)) (second_verdict a.settings.now a.chart.now (insert_verdict (under a.settings.now a.chart.now) a.place a.object.now (sym c.entries_in-2.ensures i)))) ∙ (sym c.insert_both.ensures.answer ∙ c.in_ok-insert_both.was) in let q = chart_after _ _ _ _ c.insert_both.ensures.chart c.in_ok-insert_both.was in let n = (ap (λ (b : List ℕ). (layout_of b).n - 1) q ∙ count_less (inserted_more a.chart.now a.place a.object.now (inserted a.chart.now a.place a.object.now _ (both_accepted _ _ v).0)).counts) in let s = c.settings_at-set.ensures ∙ ap settings_of q in let r = c.insert_rows.ensures.records ∙ (λ i. edit_records (s i) (q i) a.place (inserted_records a.place) (rows_up record_width (first_moved a.place) (n i) a.records.now)) in let w = c.insert_rows.ensures.values ∙ (λ i. edit_values (s i) (q i) a.place (inserted_values a.place) (r i) (rows_up value_width (first_moved a.place) (n i) a.values.now)) in let s2 = c.settings_at-second.ensures in let r2 = c.insert_rows-2.ensures.records ∙ (λ i. edit_records (s2 i) (q i) a.place (inserted_records a.place) (rows_up record_width (first_moved a.place) (n i) a.second_records.now)) in let w2 = c.insert_rows-2.ensures.values ∙ (λ i. edit_values (s2 i) (q i) a.place (inserted_values a.place) (r2 i) (rows_up value_width (first_moved a.place) (n i) a.second_values.now)) in record {
  answer = insert_both_is a.settings.now a.chart.now a.records.now a.values.now a.second_records.now a.second_values.now a.place a.object.now _ (sym v);
  leaves = (λ i. pair (q i) (r i) (w i) (r2 i) (w2 i)) ∙ sym (insert_both_left a.settings.now a.chart.now a.records.now a.values.now a.second_records.now a.second_values.now a.place a.object.now v);
}
