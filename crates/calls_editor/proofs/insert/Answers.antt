-- `calls_editor::insert` meets its contract. Assumes nothing.
use Rattle.std.proofs.lemmas.Result.{err_from_is_err_and}
use Rattle.calls_editor.proofs.Second.{count_less}
use Rattle.calls_editor.proofs.Outcomes.{insert_refused, insert_accepted}
use Rattle.calls_editor.proofs.Edits.{chart_after, chart_kept}
use Rattle.calls_editor.proofs.Second.{inserted_fits}
use Rattle.calls.specs.Calls as answers
use Rattle.calls.specs.Calls.{first_moved, inserted_records, inserted_values, refused, outcome_with, edit_records, edit_values}
use Rattle.calls.proofs.Moving.{inserted_more}
use Rattle.chart_inserting.proofs.Accepted.{inserted}
use Rattle.chart_inserting.specs.Insert.{insert_verdict}
use Rattle.calls.specs.Tables.{record_width, value_width}
use Rattle.num_tables.specs.Parts.{rows_up}
use Rattle.chart_opening.specs.Header.{layout_of, settings_of}
use lib.ListN.{length}
use mathlib.Core.List.{List}
use Prim.Native.Nat.{ℕ, ◌-◌}
use mathlib.Core.Path.{sym, ap, ◌∙◌}
use Rattle.calls_editor.proofs.insert.Goals as goal

pub settings_at-set-requires : goal.settings_at-set-requires
settings_at-set-requires c = let a = c.args in let f = inserted_fits a.chart.now a.place a.object.now (length a.records.now) (length a.values.now) (ap (λ (n : ℕ). insert_verdict a.chart.now a.place a.object.now n) (sym c.entries_in.ensures) ∙ (sym c.insert.ensures.answer ∙ c.in_ok-insert.was)) in let q = chart_after _ _ _ _ c.insert.ensures.chart c.in_ok-insert.was in rw q f.0.long

pub insert_rows-requires : goal.insert_rows-requires
insert_rows-requires c = let a = c.args in let f = inserted_fits a.chart.now a.place a.object.now (length a.records.now) (length a.values.now) (ap (λ (n : ℕ). insert_verdict a.chart.now a.place a.object.now n) (sym c.entries_in.ensures) ∙ (sym c.insert.ensures.answer ∙ c.in_ok-insert.was)) in let q = chart_after _ _ _ _ c.insert.ensures.chart c.in_ok-insert.was in rw q f

pub returns-in_err-insert : goal.returns-in_err-insert
returns-in_err-insert c =
    let p = err_from_is_err_and c.from_residual.result c.from_residual.ensures.1 in
    rw (p.1, p.2) (let a = c.args in let v = ap (λ (n : ℕ). insert_verdict a.chart.now a.place a.object.now n) (sym c.entries_in.ensures) ∙ (sym c.insert.ensures.answer ∙ c.in_err-insert.was) in let q = chart_kept _ _ _ _ c.insert.ensures.chart c.in_err-insert.was in ((λ i. outcome_with (refused c.in_err-insert.field-0.0) (q i) a.records.now a.values.now) ∙ sym (insert_refused a.chart.now a.records.now a.values.now a.place a.object.now _ v)))

pub returns : goal.returns
returns c = let a = c.args in let v = ap (λ (n : ℕ). insert_verdict a.chart.now a.place a.object.now n) (sym c.entries_in.ensures) ∙ (sym c.insert.ensures.answer ∙ c.in_ok-insert.was) in let q = chart_after _ _ _ _ c.insert.ensures.chart c.in_ok-insert.was in let n = (ap (λ (b : List ℕ). (layout_of b).n - 1) q ∙ count_less (inserted_more a.chart.now a.place a.object.now (inserted a.chart.now a.place a.object.now _ v)).counts) in let s = c.settings_at-set.ensures ∙ ap settings_of q in let r = c.insert_rows.ensures.records ∙ (λ i. edit_records (s i) (q i) a.place (inserted_records a.place) (rows_up record_width (first_moved a.place) (n i) a.records.now)) in let w = c.insert_rows.ensures.values ∙ (λ i. edit_values (s i) (q i) a.place (inserted_values a.place) (r i) (rows_up value_width (first_moved a.place) (n i) a.values.now)) in ((λ i. outcome_with answers.inserted (q i) (r i) (w i)) ∙ sym (insert_accepted a.chart.now a.records.now a.values.now a.place a.object.now v))
