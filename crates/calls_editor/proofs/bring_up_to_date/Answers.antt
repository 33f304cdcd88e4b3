-- `calls_editor::bring_up_to_date` meets its contract. Assumes nothing.
use Rattle.calls_editor.proofs.Outcomes.{records_edited, values_edited}
use Rattle.eval_values.specs.Values.{values_in}
use Rattle.osu_records.specs.Fill.{filled_range}
use Rattle.num_tables.specs.Parts.{fill}
use Rattle.chart_fields.specs.declared.Layout.{Layout}
use Prim.Native.Nat.{ℕ, ◌-◌, min, max}
use Rattle.std.proofs.Math.Nat.{max_comm}
use mathlib.Core.Path.{sym, ap, ◌∙◌}
use Rattle.calls_editor.proofs.bring_up_to_date.Goals as goal

pub returns : goal.returns
returns c = let a = c.args in let b = a.chart.now in let k = a.place in let l = c.layout_of-lay.ensures in let from = c.max-from.ensures ∙ (ap (λ (n : ℕ). max n 1) c.saturating_sub.ensures ∙ max_comm (k - 1) 1) in let first = c.max.ensures ∙ max_comm k 1 in let to = c.min.ensures ∙ ap (λ (x : Layout). min a.records_end x.n) l in let to2 = c.min-2.ensures ∙ ap (λ (x : Layout). min a.values_end x.n) l in let rows = c.fill_range.new.t in record {
  records = c.fill_range.ensures ∙ ((λ i. filled_range b (l i) a.set (first i) (to i) a.records.now) ∙ sym (records_edited a.set b k a.records_end a.records.now));
  values = c.fill_values.ensures ∙ ((λ i. fill 5 (values_in a.set b (l i) rows) (from i) (to2 i - from i) a.values.now) ∙ sym (values_edited a.set b k a.values_end rows a.values.now));
}
