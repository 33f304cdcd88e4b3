-- `calls_editor::replace` meets its contract. Assumes nothing.
use Rattle.std.proofs.lemmas.Result.{err_from_is_err_and}
use Rattle.calls_editor.proofs.Outcomes.{replace_refused, replace_accepted}
use Rattle.calls_editor.proofs.Edits.{chart_after, chart_kept}
use Rattle.calls_editor.proofs.Second.{replaced_fits}
use Rattle.calls.specs.Calls as answers
use Rattle.calls.specs.Calls.{first_moved, replaced_records, replaced_values, refused, outcome_with, edit_records, edit_values}
use Rattle.chart_replacing.specs.Replace.{replace_verdict}
use Rattle.chart_opening.specs.Header.{settings_of}
use lib.ListN.{length}
use Prim.Native.Nat.{ℕ}
use mathlib.Core.Path.{sym, ap, ◌∙◌}
use Rattle.calls_editor.proofs.replace.Goals as goal

pub settings_at-set-requires : goal.settings_at-set-requires
settings_at-set-requires c = let a = c.args in let f = replaced_fits a.chart.now a.place a.object.now (length a.records.now) (length a.values.now) (ap (λ (n : ℕ). replace_verdict a.chart.now a.place a.object.now n) (sym c.entries_in.ensures) ∙ (sym c.replace.ensures.answer ∙ c.in_ok-replace.was)) in let q = chart_after _ _ _ _ c.replace.ensures.chart c.in_ok-replace.was in rw q f.0.long

pub replace_rows-requires : goal.replace_rows-requires
replace_rows-requires c = let a = c.args in let f = replaced_fits a.chart.now a.place a.object.now (length a.records.now) (length a.values.now) (ap (λ (n : ℕ). replace_verdict a.chart.now a.place a.object.now n) (sym c.entries_in.ensures) ∙ (sym c.replace.ensures.answer ∙ c.in_ok-replace.was)) in let q = chart_after _ _ _ _ c.replace.ensures.chart c.in_ok-replace.was in rw q f

pub returns-in_err-replace : goal.returns-in_err-replace
returns-in_err-replace c =
    let p = err_from_is_err_and c.from_residual.result c.from_residual.ensures.1 in
    rw (p.1, p.2) (let a = c.args in let v = ap (λ (n : ℕ). replace_verdict a.chart.now a.place a.object.now n) (sym c.entries_in.ensures) ∙ (sym c.replace.ensures.answer ∙ c.in_err-replace.was) in let q = chart_kept _ _ _ _ c.replace.ensures.chart c.in_err-replace.was in ((λ i. outcome_with (refused c.in_err-replace.field-0.0) (q i) a.records.now a.values.now) ∙ sym (replace_refused a.chart.now a.records.now a.values.now a.place a.object.now _ v)))

pub returns : goal.returns
returns c = let a = c.args in let v = ap (λ (n : ℕ). replace_verdict a.chart.now a.place a.object.now n) (sym c.entries_in.ensures) ∙ (sym c.replace.ensures.answer ∙ c.in_ok-replace.was) in let q = chart_after _ _ _ _ c.replace.ensures.chart c.in_ok-replace.was in let s = c.settings_at-set.ensures ∙ ap settings_of q in let r = c.replace_rows.ensures.records ∙ (λ i. edit_records (s i) (q i) a.place (replaced_records a.place) a.records.now) in let w = c.replace_rows.ensures.values ∙ (λ i. edit_values (s i) (q i) a.place (replaced_values a.place) (r i) a.values.now) in ((λ i. outcome_with answers.replaced (q i) (r i) (w i)) ∙ sym (replace_accepted a.chart.now a.records.now a.values.now a.place a.object.now v))
