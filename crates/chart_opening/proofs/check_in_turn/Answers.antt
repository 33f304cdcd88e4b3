-- `chart_opening::check_in_turn` meets its contract. Assumes nothing.
use mathlib.Core.Path.{sym, ◌∙◌}
use Rattle.chart_fields.proofs.Found.{place_is, place_none}
use Rattle.chart_opening.specs.Conditions.{first_of, body_conditions}
use Rattle.chart_opening.proofs.check_in_turn.Goals as goal

pub returns-in-Some : goal.returns-in-Some
unfolding first_of body_conditions
returns-in-Some c = let p = place_is _ _ _ c.in-Some.ensures in simp (p.0, p.1)

pub returns-in-Some-first_bad_entries : goal.returns-in-Some-first_bad_entries
unfolding first_of body_conditions
returns-in-Some-first_bad_entries c =
    let p = place_is _ _ _ c.in-Some-first_bad_entries.ensures in
    simp (place_none _ _ c.in_default.ensures, p.0, p.1)

pub returns-in-Some-first_fall : goal.returns-in-Some-first_fall
unfolding first_of body_conditions
returns-in-Some-first_fall c =
    let p = place_is _ _ _ c.in-Some-first_fall.ensures in
    simp (place_none _ _ c.in_default.ensures, place_none _ _ c.in_default-first_bad_entries.ensures, p.0, p.1)

pub returns-then-too_long : goal.returns-then-too_long
unfolding first_of body_conditions
returns-then-too_long c =
    simp (
      place_none _ _ c.in_default.ensures,
      place_none _ _ c.in_default-first_bad_entries.ensures,
      place_none _ _ c.in_default-first_fall.ensures,
      sym c.too_long.ensures ∙ c.if-too_long.true,
    )

pub returns : goal.returns
unfolding first_of body_conditions
returns c =
    simp (
      place_none _ _ c.in_default.ensures,
      place_none _ _ c.in_default-first_bad_entries.ensures,
      place_none _ _ c.in_default-first_fall.ensures,
      sym c.too_long.ensures ∙ c.if-too_long.false,
    )
