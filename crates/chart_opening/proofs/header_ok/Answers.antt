-- `chart_opening::header_ok` meets its contract. Assumes nothing.
use mathlib.Core.Path.{sym, ◌∙◌}
use native.Mathlib.Omega.{arith}
use Rattle.chart_opening.proofs.Header.{framed}
use Rattle.chart_opening.proofs.header_ok.Goals as goal

pub u32_at-requires : goal.u32_at-requires
u32_at-requires c = omega (arith, (framed _ (sym c.frame_ok.ensures ∙ c.if-frame_ok.true)).long)
