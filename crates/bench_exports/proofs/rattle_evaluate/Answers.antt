-- `bench_exports::rattle_evaluate` meets its contract. Assumes nothing.
use Prim.Native.Nat.{◌/◌}
use mathlib.Core.Path.{sym, ◌∙◌}
use native.Mathlib.Omega.{arith}
use lib.ListN.{length}
use Rattle.chart_opening.specs.Accepted.{opens, enough, header_ok_lem}
use Rattle.chart_opening.proofs.Header.{parts}
use Rattle.osu_difficulty_object.proofs.Accepted as Chart
use Rattle.bench_exports.proofs.rattle_evaluate.Goals as goal

pub layout_of-lay-requires : goal.layout_of-lay-requires
layout_of-lay-requires c = (parts _ (header_ok_lem _ (opens _ _ (sym c.check.ensures ∙ c.in-Ok.is)))).long

pub settings_at-set-requires : goal.settings_at-set-requires
settings_at-set-requires c = (parts _ (header_ok_lem _ (opens _ _ (sym c.check.ensures ∙ c.in-Ok.is)))).long

pub sum_values-requires : goal.sum_values-requires
sum_values-requires c =
    let a = c.args in
    let e = sym c.check.ensures ∙ c.in-Ok.is in
    rw c.layout_of-lay.ensures ((Chart.opened a.chart.now (length a.records.now / 16) e).ready, omega (arith, enough a.chart.now (length a.records.now / 16) e))
