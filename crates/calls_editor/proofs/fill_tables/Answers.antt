-- `calls_editor::fill_tables` meets its contract. Assumes nothing.
use Rattle.calls_editor.proofs.Outcomes.{records_opened, values_opened}
use Rattle.eval_values.specs.Values.{values_in}
use Rattle.osu_records.specs.Fill.{filled}
use Rattle.num_tables.specs.Parts.{fill}
use native.Mathlib.Omega.{arith}
use Prim.Native.Nat.{◌-◌}
use mathlib.Core.Path.{sym, ◌∙◌}
use Rattle.calls_editor.proofs.fill_tables.Goals as goal

pub fill-requires : goal.fill-requires
fill-requires c = let f = c.requires in rw c.layout_of-lay.ensures (f.ready, f.records)

pub fill_values-requires : goal.fill_values-requires
fill_values-requires c = let f = c.requires in rw c.layout_of-lay.ensures (f.ready, omega arith, omega arith, omega (arith, f.records), f.values)

pub returns : goal.returns
returns c = let a = c.args in let b = a.chart.now in let l = c.layout_of-lay.ensures in let rows = c.fill.new.t in let r = c.fill.ensures ∙ ((λ i. filled b (l i) a.set a.records.now) ∙ sym (records_opened a.set b a.records.now)) in record {
  records = r;
  values = c.fill_values.ensures ∙ ((λ i. fill 5 (values_in a.set b (l i) rows) 1 ((l i).n - 1) a.values.now) ∙ sym (values_opened a.set b rows a.values.now));
}
