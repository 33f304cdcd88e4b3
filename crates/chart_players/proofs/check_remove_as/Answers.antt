-- `chart_players::check_remove_as` meets its contract. Assumes nothing.
use Rattle.std.proofs.lemmas.Result.{err_from_is_err_and}
use Rattle.chart_inserting.specs.Insert.{remove_place_conditions, remove_verdict}
use Rattle.chart_players.specs.Second.{under}
use Rattle.chart_inserting.specs.Local.{long_without}
use Rattle.chart_opening.specs.declared.Refusal.TheVariants.{Length}
use Rattle.chart_opening.specs.Conditions.{refuse_if}
use Rattle.chart_opening.proofs.Header.{parts, holds}
use Rattle.chart_opening.specs.Accepted.{header_ok_lem}
use Rattle.chart_opening.specs.Header.{layout_of}
use Rattle.chart_players.proofs.Verdicts.{remove_tried, remove_after, edit_refused, edit_passed, edit_settings}
use Rattle.chart_fields.specs.declared.Layout.{Layout}
use native.Mathlib.Omega.{arith}
use mathlib.Core.Path.{sym, ap, ◌∙◌}
use Rattle.chart_players.proofs.check_remove_as.Goals as goal

pub layout_of-lay-requires : goal.layout_of-lay-requires
layout_of-lay-requires c = (parts _ (header_ok_lem _ c.requires.opens)).long

pub settings_at-set-requires : goal.settings_at-set-requires
settings_at-set-requires c = let a = c.args in let s = (edit_settings a.settings.now a.chart.now a.entries (remove_verdict (under a.settings.now a.chart.now) a.place a.entries) (remove_place_conditions (under a.settings.now a.chart.now) a.place) (layout_of a.chart.now).n (remove_tried a.settings.now a.chart.now a.entries a.place) (ap (λ (l : Layout). l.n) c.layout_of-lay.ensures) c.check_other.ensures c.in_ok-check_other.was).1 in omega (arith, s)

pub long_without-requires : goal.long_without-requires
long_without-requires c = rw c.layout_of-lay.ensures (holds _ (header_ok_lem _ c.requires.opens))

pub returns-in_err-check_other : goal.returns-in_err-check_other
returns-in_err-check_other c =
    let p = err_from_is_err_and c.from_residual.result c.from_residual.ensures.1 in
    rw (p.1, p.2) (let a = c.args in edit_refused a.settings.now a.chart.now a.entries (remove_verdict (under a.settings.now a.chart.now) a.place a.entries) (remove_place_conditions (under a.settings.now a.chart.now) a.place) (layout_of a.chart.now).n (remove_tried a.settings.now a.chart.now a.entries a.place) (ap (λ (l : Layout). l.n) c.layout_of-lay.ensures) c.check_other.ensures c.in_err-check_other.was)

pub returns : goal.returns
returns c = let a = c.args in let s = edit_settings a.settings.now a.chart.now a.entries (remove_verdict (under a.settings.now a.chart.now) a.place a.entries) (remove_place_conditions (under a.settings.now a.chart.now) a.place) (layout_of a.chart.now).n (remove_tried a.settings.now a.chart.now a.entries a.place) (ap (λ (l : Layout). l.n) c.layout_of-lay.ensures) c.check_other.ensures c.in_ok-check_other.was in edit_passed a.settings.now a.chart.now a.entries (remove_verdict (under a.settings.now a.chart.now) a.place a.entries) (remove_place_conditions (under a.settings.now a.chart.now) a.place) (layout_of a.chart.now).n (remove_tried a.settings.now a.chart.now a.entries a.place) (ap (λ (l : Layout). l.n) c.layout_of-lay.ensures) c.check_other.ensures c.in_ok-check_other.was (remove_after a.settings.now a.chart.now s.0 s.1 a.place c.requires ∙ sym (λ j. refuse_if (long_without a.chart.now (c.layout_of-lay.ensures j) (c.settings_at-set.ensures j).clock_rate a.place) Length) ∙ sym (c.length_verdict.ensures ∙ ap (λ b. refuse_if b Length) c.long_without.ensures))
