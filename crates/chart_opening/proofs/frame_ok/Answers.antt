-- `chart_opening::frame_ok` meets its contract. Assumes nothing.
use mathlib.Core.Path.{sym, ◌∙◌}
use native.Mathlib.Omega.{arith}
use borrow.Author.Tests.{leb-true}
use Rattle.chart_opening.proofs.Header.{both, ends_fit}
use Rattle.chart_opening.proofs.frame_ok.Goals as goal
use Rattle.chart_opening.proofs.frame_ok.Goals.{then-s-ge-HEADER_SIZE, else-s-ge-HEADER_SIZE}

pub offsets_ok-requires : goal.offsets_ok-requires
offsets_ok-requires c =
    elim c.if-s-ge-HEADER_SIZE.branch [
      | then-s-ge-HEADER_SIZE w ↦
          let ok = sym w.counts_ok.ensures ∙ sym w.value-is ∙ c.if-counts_ok.true in
          (omega (arith, w.if-s-ge-HEADER_SIZE.true), rw c.layout_of.ensures (ends_fit _ (both _ _ ok).0))
      | else-s-ge-HEADER_SIZE w ↦ let h = leb-true _ _ (sym w.value-is ∙ c.if-counts_ok.true) in absurd (omega (arith, h, w.if-s-ge-HEADER_SIZE.false))
    ]
