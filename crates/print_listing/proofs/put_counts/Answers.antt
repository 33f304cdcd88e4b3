-- `print_listing::put_counts` meets its contract: counts are carried out. Assumes nothing.
use mathlib.Core.Path.{refl, sym, ap, ◌∙◌}
use Rattle.print_text.specs.Buffer.{same_text}
use Rattle.chart_opening.specs.Conditions.{first_of}
use Rattle.calls.specs.Afresh.{counts}
use Rattle.calls.specs.Conditions.{asked_conditions}
use Rattle.calls.specs.Calls.{Outcome}
use Rattle.print_lines.specs.Lines.{counts_text}
use Rattle.calls_figures.specs.Answers.{scratch_of, counts_answer}
use Rattle.print_listing.proofs.Calls.{figure_carried_out, counts_are_lem}
use Rattle.print_listing.proofs.put_counts.Goals as goal

pub returns-in-Err : goal.returns-in-Err
unfolding asked_conditions first_of
returns-in-Err c =
    let a = c.args in
    let m = c.requires in
    absurd (figure_carried_out a.chart.now a.values.now m.0 (scratch_of a.aim.now a.aim_no_sliders.now a.speed.now a.flashlight.now) m.1 counts refl _ (ap counts_answer (sym c.in-Err.is) ∙ ap (λ (x : Outcome). x.answer) c.counts.ensures.answer))

pub returns-in-Ok : goal.returns-in-Ok
returns-in-Ok c =
    let a = c.args in
    let m = c.requires in
    same_text (ap counts_text (counts_are_lem a.chart.now a.values.now m.0 (scratch_of a.aim.now a.aim_no_sliders.now a.speed.now a.flashlight.now) m.1 _ (ap counts_answer (sym c.in-Ok.is) ∙ ap (λ (x : Outcome). x.answer) c.counts.ensures.answer))) c.put_counts.ensures
