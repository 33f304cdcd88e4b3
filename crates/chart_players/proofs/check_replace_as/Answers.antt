-- `chart_players::check_replace_as` meets its contract. Assumes nothing.
use Rattle.std.proofs.lemmas.Result.{err_from_is_err_and}
use Rattle.chart_fields.specs.Objects.{fields_at}
use Rattle.chart_replacing.specs.Replace.{place_conditions, replace_verdict}
use Rattle.chart_players.specs.Second.{under}
use Rattle.chart_replacing.specs.Local.{new_too_long}
use Rattle.chart_opening.specs.declared.Refusal.TheVariants.{Length}
use Rattle.chart_opening.specs.Conditions.{refuse_if}
use Rattle.chart_opening.proofs.Header.{parts, holds}
use Rattle.chart_opening.specs.Accepted.{header_ok_lem}
use Rattle.chart_opening.specs.Header.{layout_of}
use Rattle.chart_players.proofs.Verdicts.{replace_tried, replace_after, edit_refused, edit_passed, edit_settings}
use Rattle.chart_fields.specs.declared.Layout.{Layout}
use native.Mathlib.Omega.{arith}
use mathlib.Core.Path.{sym, ap, ◌∙◌}
use Rattle.chart_players.proofs.check_replace_as.Goals as goal

pub layout_of-lay-requires : goal.layout_of-lay-requires
layout_of-lay-requires c = (parts _ (header_ok_lem _ c.requires.opens)).long

pub settings_at-set-requires : goal.settings_at-set-requires
settings_at-set-requires c = let a = c.args in let s = (edit_settings a.settings.now a.chart.now a.entries (replace_verdict (under a.settings.now a.chart.now) a.place a.object.now a.entries) (place_conditions (under a.settings.now a.chart.now) a.place a.object.now) (layout_of a.chart.now).n (replace_tried a.settings.now a.chart.now a.entries a.place a.object.now) (ap (λ (l : Layout). l.n) c.layout_of-lay.ensures) c.check_other.ensures c.in_ok-check_other.was).1 in omega (arith, s)

pub fields_at-f-requires : goal.fields_at-f-requires
fields_at-f-requires c = let f = (holds _ (header_ok_lem _ c.requires.opens)).size_least in let l = ap (λ (x : Layout). x.object_size) c.layout_of-lay.ensures in (omega (arith, f, l), omega (arith, c.requires.long, l))

pub new_too_long-requires : goal.new_too_long-requires
new_too_long-requires c = rw c.layout_of-lay.ensures (holds _ (header_ok_lem _ c.requires.opens))

pub returns-in_err-check_other : goal.returns-in_err-check_other
returns-in_err-check_other c =
    let p = err_from_is_err_and c.from_residual.result c.from_residual.ensures.1 in
    rw (p.1, p.2) (let a = c.args in edit_refused a.settings.now a.chart.now a.entries (replace_verdict (under a.settings.now a.chart.now) a.place a.object.now a.entries) (place_conditions (under a.settings.now a.chart.now) a.place a.object.now) (layout_of a.chart.now).n (replace_tried a.settings.now a.chart.now a.entries a.place a.object.now) (ap (λ (l : Layout). l.n) c.layout_of-lay.ensures) c.check_other.ensures c.in_err-check_other.was)

pub returns : goal.returns
returns c = let a = c.args in let s = edit_settings a.settings.now a.chart.now a.entries (replace_verdict (under a.settings.now a.chart.now) a.place a.object.now a.entries) (place_conditions (under a.settings.now a.chart.now) a.place a.object.now) (layout_of a.chart.now).n (replace_tried a.settings.now a.chart.now a.entries a.place a.object.now) (ap (λ (l : Layout). l.n) c.layout_of-lay.ensures) c.check_other.ensures c.in_ok-check_other.was in let fj = c.fields_at-f.ensures ∙ ap (λ (l : Layout). fields_at a.object.now 0 l.object_size) c.layout_of-lay.ensures in edit_passed a.settings.now a.chart.now a.entries (replace_verdict (under a.settings.now a.chart.now) a.place a.object.now a.entries) (place_conditions (under a.settings.now a.chart.now) a.place a.object.now) (layout_of a.chart.now).n (replace_tried a.settings.now a.chart.now a.entries a.place a.object.now) (ap (λ (l : Layout). l.n) c.layout_of-lay.ensures) c.check_other.ensures c.in_ok-check_other.was (replace_after a.settings.now a.chart.now s.0 s.1 a.place a.object.now c.requires ∙ sym (λ j. refuse_if (new_too_long a.chart.now (c.layout_of-lay.ensures j) (c.settings_at-set.ensures j).clock_rate a.place (fj j)) Length) ∙ sym (c.length_verdict.ensures ∙ ap (λ b. refuse_if b Length) c.new_too_long.ensures))
