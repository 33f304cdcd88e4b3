-- `calls_editor::remove` meets its contract. Assumes nothing.
use Rattle.std.proofs.lemmas.Result.{err_from_is_err_and}
use Rattle.calls_editor.proofs.Second.{count_more}
use Rattle.calls_editor.proofs.Outcomes.{remove_refused, remove_accepted}
use Rattle.calls_editor.proofs.Edits.{chart_after, chart_kept}
use Rattle.calls_editor.proofs.Second.{removed_fits}
use Rattle.calls.specs.Calls as answers
use Rattle.calls.specs.Calls.{first_moved, removed_records, removed_values, refused, outcome_with, edit_records, edit_values}
use Rattle.calls.proofs.Moving.{removed_more}
use Rattle.chart_inserting.proofs.Accepted.{removed}
use Rattle.chart_inserting.specs.Insert.{remove_verdict}
use Rattle.calls.specs.Tables.{record_width, value_width}
use Rattle.num_tables.specs.Parts.{rows_down}
use Rattle.chart_opening.specs.Header.{layout_of, settings_of}
use lib.ListN.{length}
use mathlib.Core.List.{List}
use Prim.Native.Nat.{ℕ, ◌+◌}
use mathlib.Core.Path.{sym, ap, ◌∙◌}
use Rattle.calls_editor.proofs.remove.Goals as goal

pub settings_at-set-requires : goal.settings_at-set-requires
settings_at-set-requires c = let a = c.args in let f = removed_fits a.chart.now a.place (length a.records.now) (length a.values.now) (ap (λ (n : ℕ). remove_verdict a.chart.now a.place n) (sym c.entries_in.ensures) ∙ (sym c.remove.ensures.answer ∙ c.in_ok-remove.was)) in let q = chart_after _ _ _ _ c.remove.ensures.chart c.in_ok-remove.was in rw q f.0.long

pub remove_rows-requires : goal.remove_rows-requires
remove_rows-requires c = let a = c.args in let f = removed_fits a.chart.now a.place (length a.records.now) (length a.values.now) (ap (λ (n : ℕ). remove_verdict a.chart.now a.place n) (sym c.entries_in.ensures) ∙ (sym c.remove.ensures.answer ∙ c.in_ok-remove.was)) in let q = chart_after _ _ _ _ c.remove.ensures.chart c.in_ok-remove.was in rw q f

pub returns-in_err-remove : goal.returns-in_err-remove
returns-in_err-remove c =
    let p = err_from_is_err_and c.from_residual.result c.from_residual.ensures.1 in
    rw (p.1, p.2) (let a = c.args in let v = ap (λ (n : ℕ). remove_verdict a.chart.now a.place n) (sym c.entries_in.ensures) ∙ (sym c.remove.ensures.answer ∙ c.in_err-remove.was) in let q = chart_kept _ _ _ _ c.remove.ensures.chart c.in_err-remove.was in (λ i. outcome_with (refused c.in_err-remove.field-0.0) (q i) a.records.now a.values.now) ∙ sym (remove_refused a.chart.now a.records.now a.values.now a.place _ v))

pub returns : goal.returns
returns c = let a = c.args in let v = ap (λ (n : ℕ). remove_verdict a.chart.now a.place n) (sym c.entries_in.ensures) ∙ (sym c.remove.ensures.answer ∙ c.in_ok-remove.was) in let q = chart_after _ _ _ _ c.remove.ensures.chart c.in_ok-remove.was in let n = (ap (λ (b : List ℕ). (layout_of b).n + 1) q ∙ count_more (removed_more a.chart.now a.place (removed a.chart.now a.place _ v)).counts) in let s = c.settings_at-set.ensures ∙ ap settings_of q in let r = c.remove_rows.ensures.records ∙ (λ i. edit_records (s i) (q i) a.place (removed_records a.place) (rows_down record_width (first_moved a.place) (n i) a.records.now)) in let w = c.remove_rows.ensures.values ∙ (λ i. edit_values (s i) (q i) a.place (removed_values a.place) (r i) (rows_down value_width (first_moved a.place) (n i) a.values.now)) in (λ i. outcome_with answers.removed (q i) (r i) (w i)) ∙ sym (remove_accepted a.chart.now a.records.now a.values.now a.place v)
