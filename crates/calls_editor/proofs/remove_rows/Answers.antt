-- `calls_editor::remove_rows` meets its contract. Assumes nothing.
use Rattle.calls.specs.Calls.{removed_values, edit_records, edit_values}
use Rattle.calls.specs.Tables.{record_width, value_width}
use Rattle.num_tables.proofs.Moves.{length_rows_down}
use Rattle.num_tables.specs.Parts.{rows_down}
use lib.ListN.{length}
use Rattle.chart_fields.specs.declared.Layout.{Layout}
use native.Mathlib.Omega.{arith}
use Prim.Native.Nat.{◌+◌}
use Rattle.std.proofs.Math.Nat.{max_comm}
use mathlib.Core.Path.{ap, ◌∙◌}
use Rattle.calls_editor.proofs.remove_rows.Goals as goal

pub overflow_add-n : goal.overflow_add-n
overflow_add-n c = let f = c.requires.0 in let l = ap (λ (x : Layout). x.n) c.layout_of-n.ensures in omega (arith, f.few, l)

pub rows_down-requires : goal.rows_down-requires
rows_down-requires c = let p = c.requires in let l = ap (λ (x : Layout). x.n) c.layout_of-n.ensures in (omega (arith, l, c.max-from.ensures, p.1), omega (arith, p.2, l))

pub overflow_add-n-2 : goal.overflow_add-n-2
overflow_add-n-2 c = let f = c.requires.0 in let l = ap (λ (x : Layout). x.n) c.layout_of-n.ensures in omega (arith, f.few, l)

pub rows_down-requires-2 : goal.rows_down-requires-2
rows_down-requires-2 c = let p = c.requires in let l = ap (λ (x : Layout). x.n) c.layout_of-n.ensures in (omega (arith, l, c.max-from.ensures, p.1), omega (arith, p.3, l))

pub bring_up_to_date-requires : goal.bring_up_to_date-requires
bring_up_to_date-requires c = let p = c.requires in let f = p.0 in let l = ap (λ (x : Layout). x.n) c.layout_of-n.ensures in let r = ap length c.rows_down.ensures ∙ length_rows_down record_width _ _ _ (λ q. omega (arith, p.2, l)) in let v = ap length c.rows_down-2.ensures ∙ length_rows_down value_width _ _ _ (λ q. omega (arith, p.3, l)) in record { ready = f.ready; long = f.long; few = f.few; records = omega (arith, f.records, r); values = omega (arith, f.values, v) }

pub returns : goal.returns
returns c = let a = c.args in let b = a.chart.now in let k = a.place in let l = ap (λ (x : Layout). x.n) c.layout_of-n.ensures in let from = c.max-from.ensures ∙ max_comm k 1 in let rows = c.rows_down.ensures ∙ (λ i. rows_down record_width (from i) (l i + 1) a.records.now) in let more = c.rows_down-2.ensures ∙ (λ i. rows_down value_width (from i) (l i + 1) a.values.now) in record {
  records = c.bring_up_to_date.ensures.records ∙ (λ i. edit_records a.set b k (c.max-end.ensures i) (rows i));
  values = c.bring_up_to_date.ensures.values ∙ ap (edit_values a.set b k (removed_values k) _) more;
}
