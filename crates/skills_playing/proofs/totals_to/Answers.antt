-- `skills_playing::totals_to` meets its contract: the ordinary totals of the first m objects. Assumes nothing.
use mathlib.Core.Path.{sym, ap, ◌∙◌, subst}
use Rattle.chart_fields.specs.declared.Layout.{Layout}
use Rattle.skills.specs.Chart.{Readable, totals_of}
use Rattle.skills_playing.proofs.Shorter.{readable_first, totals_first}
use Rattle.skills_playing.proofs.totals_to.Goals as goal

pub totals-requires : goal.totals-requires
totals-requires c =
    let a = c.args in
    let p = c.requires in (
      subst (λ (l : Layout). Readable a.chart.now l a.values.now) (sym c.first_objects.ensures) (readable_first a.chart.now a.lay a.m a.values.now p.1 p.0),
      p.2,
      p.3,
      p.4,
      p.5,
    )

pub returns : goal.returns
returns c =
    let a = c.args in
    let t = c.totals.ensures in
    record {
      result = t.result ∙ ap (λ (l : Layout). totals_of a.chart.now l a.clock a.values.now) c.first_objects.ensures ∙ totals_first a.chart.now a.lay a.m a.clock a.values.now;
      first = t.first;
      second = t.second;
      third = t.third;
      fourth = t.fourth;
    }
