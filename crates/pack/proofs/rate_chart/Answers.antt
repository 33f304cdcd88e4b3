-- `pack::rate_chart` meets its contract. Assumes nothing.
use mathlib.Core.Path.{ap, ◌∙◌}
use native.Mathlib.Omega.{arith}
use Rattle.chart_opening.specs.Header.{layout_of, settings_of}
use Rattle.skills.specs.Chart.{totals_of}
use Rattle.calls_editor.proofs.Fits.{fits}
use Rattle.pack.specs.Pack.{key_row, key_from, tables}
use Rattle.pack.proofs.Checks.{rateable}
use Rattle.pack.proofs.Rated.{key_fresh}
use Rattle.pack.proofs.rate_chart.Goals as goal

pub fill_tables-requires : goal.fill_tables-requires
fill_tables-requires c = (rateable _ _ _ _ _ c.requires).opens

pub key_of-requires : goal.key_of-requires
key_of-requires c =
    let s = (rateable _ _ _ _ _ c.requires).sums in
    record { long = s.long; holds = s.holds; rows = omega (arith, s.rows); aim = s.aim; aim_no_sliders = s.aim_no_sliders; speed = s.speed; flashlight = s.flashlight }

pub returns : goal.returns
returns c =
    let a = c.args in
    let b = a.chart.now in
    let o = c.fill_tables.ensures in
    let f = fits _ _ _ (rateable _ _ _ _ _ c.requires).opens in record {
      key = ap key_row c.key_of.ensures
          ∙ ((λ j. key_row (key_from a.asked (layout_of b).n (totals_of b (layout_of b) (settings_of b).clock_rate (o j).values)))
          ∙ key_fresh a.asked b (tables a.records.now a.values.now) f.records f.values);
      tables = o;
    }
