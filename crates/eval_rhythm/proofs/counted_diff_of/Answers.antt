-- `eval_rhythm::counted_diff_of` meets its contract. Assumes nothing.
use native.Mathlib.Nat.{sub-zero}
use Rattle.eval_rhythm.specs.Rhythm.{rhythm_by}
use Rattle.eval_rhythm.specs.Comparisons.{comparisons_by}
use Rattle.eval_rhythm.proofs.Laws.{back_in, hist_few, here_in}
use Rattle.eval_rhythm.proofs.counted_diff_of.Goals as goal

pub returns-then-here : goal.returns-then-here
unfolding rhythm_by comparisons_by
returns-then-here c = (simp (sub-zero, c.if-here.true, ← c.cell_at-here.ensures), simp (sub-zero, c.if-here.true, ← c.cell_at-here.ensures))

pub rhythm_start-from-requires : goal.rhythm_start-from-requires
rhythm_start-from-requires c = (c.requires.0, c.requires.1, back_in _ c.requires.2 c.historical_note_count-hist.ensures, hist_few _ _ c.historical_note_count-hist.ensures, here_in c.requires.2, c.cell_at-here.ensures)

pub returns : goal.returns
unfolding rhythm_by comparisons_by
returns c = (
  simp (sub-zero, c.value.ensures, c.tap_of.ensures, c.run-sum.ensures.0, c.rhythm_start-from.ensures.0, c.historical_note_count-hist.ensures, c.if-here.false, ← c.cell_at-here.ensures),
  simp (sub-zero, c.run-sum.ensures.1, c.rhythm_start-from.ensures.0, c.historical_note_count-hist.ensures, c.if-here.false, ← c.cell_at-here.ensures),
)
