-- `calls_editor::insert_rows` meets its contract. Assumes nothing.
use Rattle.calls.specs.Calls.{inserted_values, edit_records, edit_values}
use Rattle.calls.specs.Tables.{record_width, value_width}
use Rattle.num_tables.proofs.Moves.{length_rows_up}
use Rattle.num_tables.specs.Parts.{rows_up}
use lib.ListN.{length}
use Rattle.chart_fields.specs.declared.Layout.{Layout}
use native.Mathlib.Omega.{arith}
use Prim.Native.Nat.{◌-◌}
use Rattle.std.proofs.Math.Nat.{max_comm}
use mathlib.Core.Path.{ap, ◌∙◌}
use Rattle.calls_editor.proofs.insert_rows.Goals as goal

pub overflow_sub-n : goal.overflow_sub-n
overflow_sub-n c = let l = ap (λ (x : Layout). x.n) c.layout_of-n.ensures in omega (arith, l, c.requires.1)

pub rows_up-requires : goal.rows_up-requires
rows_up-requires c = let f = c.requires.0 in let l = ap (λ (x : Layout). x.n) c.layout_of-n.ensures in omega (arith, f.records, l, c.requires.1)

pub overflow_sub-n-2 : goal.overflow_sub-n-2
overflow_sub-n-2 c = let l = ap (λ (x : Layout). x.n) c.layout_of-n.ensures in omega (arith, l, c.requires.1)

pub rows_up-requires-2 : goal.rows_up-requires-2
rows_up-requires-2 c = let f = c.requires.0 in let l = ap (λ (x : Layout). x.n) c.layout_of-n.ensures in omega (arith, f.values, l, c.requires.1)

pub bring_up_to_date-requires : goal.bring_up_to_date-requires
bring_up_to_date-requires c = let f = c.requires.0 in let l = ap (λ (x : Layout). x.n) c.layout_of-n.ensures in let r = ap length c.rows_up.ensures ∙ length_rows_up record_width _ _ _ (λ p. omega (arith, f.records, l, c.requires.1)) in let v = ap length c.rows_up-2.ensures ∙ length_rows_up value_width _ _ _ (λ p. omega (arith, f.values, l, c.requires.1)) in record { ready = f.ready; long = f.long; few = f.few; records = omega (arith, f.records, r); values = omega (arith, f.values, v) }

pub returns : goal.returns
returns c = let a = c.args in let b = a.chart.now in let k = a.place in let l = ap (λ (x : Layout). x.n) c.layout_of-n.ensures in let from = c.max-from.ensures ∙ max_comm k 1 in let rows = c.rows_up.ensures ∙ (λ i. rows_up record_width (from i) (l i - 1) a.records.now) in let more = c.rows_up-2.ensures ∙ (λ i. rows_up value_width (from i) (l i - 1) a.values.now) in record {
  records = c.bring_up_to_date.ensures.records ∙ (λ i. edit_records a.set b k (c.max-end.ensures i) (rows i));
  values = c.bring_up_to_date.ensures.values ∙ ap (edit_values a.set b k (inserted_values k) _) more;
}
