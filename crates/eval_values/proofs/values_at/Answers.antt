-- `eval_values::values_at` meets its contract: each evaluator says its own column. Assumes nothing.
use mathlib.Core.Path.{ap, ◌∙◌}
use mathlib.Core.List.{[], ◌∷◌}
use Rattle.osu_object.specs.Osu.{object_of}
use Rattle.osu_records.specs.Rows.{record_at}
use Rattle.eval_flashlight.specs.Flashlight.{flashlight_at_place}
use Rattle.eval_values.specs.Values.{row_of, values_of}
use Rattle.eval_values.proofs.values_at.Goals as goal

pub returns : goal.returns
unfolding row_of values_of
returns c =
    let a = c.args in
    λ i. c.evaluate_both-aim.ensures.0 i ∷ c.evaluate_both-aim.ensures.1 i ∷ c.evaluate_place.ensures i ∷ c.evaluate_place-2.ensures i ∷ (c.evaluate_place-3.ensures
    ∙ ap (λ e. flashlight_at_place e (object_of a.chart.now a.lay) (record_at a.t.now) a.j a.set.hidden)
    c.evaluator_of-light.ensures) i ∷ []
