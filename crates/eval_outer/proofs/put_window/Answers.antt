-- `eval_outer::put_window` meets its contract: the rows before k are the window's. Assumes nothing.
use mathlib.Core.Path.{◌≡◌}
use Prim.Native.Nat.{◌-◌}
use native.Mathlib.Omega.{arith}
use Rattle.num_tables.specs.Parts.{fill}
use Rattle.num_tables.proofs.Rows.{fill_none, fill_step}
use Rattle.osu_records.specs.Rows.{row_of}
use Rattle.eval_outer.specs.Records.{slot_at}
use Rattle.eval_outer.proofs.Seen.{table_shows}
use Rattle.eval_outer.proofs.Singles.{in_f32}
use Rattle.eval_outer.proofs.put_window.Goals as goal

pub loop-k-init : goal.loop-k-init
loop-k-init c = fill_none 16 (λ i. row_of (slot_at c.window-w.result i)) 0 _

pub loop-k-preserved : goal.loop-k-preserved
loop-k-preserved c = fill_step 16 (λ i. row_of (slot_at c.window-w.result i)) 0 c.loop-k.k _ c.loop-k.t c.put_record.new.t (omega arith) c.loop-k.invariant c.put_record.ensures

pub returns : goal.returns
returns c =
    let e : 34 ≡ c.loop-k.k - 0 = omega arith in
    let put : c.loop-k.t ≡ fill 16 (λ i. row_of (slot_at c.window-w.result i)) 0 34 c.args.t.now = rw e c.loop-k.invariant in
    table_shows c.args.rs.now c.window-w.result c.args.j _ _ c.requires c.window-w.ensures (in_f32 c.window-w.result _ c.window-w.type_inv) put
