-- `eval_values::fill_values` meets its contract: the rows before j are made anew, and nothing else is. Assumes nothing.
use mathlib.Core.Path.{◌≡◌, ap, ◌∙◌}
use Prim.Native.Nat.{◌-◌, ◌*◌}
use native.Mathlib.Omega.{arith}
use Rattle.num_tables.specs.Parts.{put}
use Rattle.num_tables.proofs.Rows.{fill_none, fill_step}
use Rattle.eval_values.specs.Values.{values_in}
use Rattle.eval_values.proofs.fill_values.Goals as goal

pub loop-j-init : goal.loop-j-init
loop-j-init c = let a = c.args in (fill_none 5 (values_in a.set a.chart.now a.lay a.t.now) a.lo a.values.now, omega arith)

pub loop-j-preserved : goal.loop-j-preserved
loop-j-preserved c =
    let a = c.args in
    let j = c.loop-j.j in
    let vs = c.loop-j.values in
    let f = values_in a.set a.chart.now a.lay a.t.now in (
      fill_step 5 f a.lo j a.values.now vs c.put_values.new.values (omega arith) c.loop-j.invariant.0
          (c.put_values.ensures ∙ ap (λ r. put (5 * j) r vs) c.values_at.ensures),
      omega arith,
    )

pub returns : goal.returns
returns c = let e : c.args.hi - c.args.lo ≡ c.loop-j.j - c.args.lo = omega arith in rw e c.loop-j.invariant.0
