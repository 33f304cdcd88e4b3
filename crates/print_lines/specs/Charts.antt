-- What programs may do with a chart that opens for tables of so many entries. Definitions only.
use Rattle.std.specs.Prelude.{ℕ, ◌*◌, ◌≤◌, ◌≡◌, List, Float, length}
use Rattle.chart_fields.specs.declared.Layout.{Layout}
use Rattle.chart_opening.specs.declared.Settings.{Settings}
use Rattle.chart_opening.specs.Header.{layout_of, settings_at}
use Rattle.osu_object.specs.Osu.{Ready}
use Rattle.skills.specs.Chart.{Readable}

-- the chart is ready to be read by its layout, and under its settings, and has an entry for each object
pub record Fits (s : List ℕ) (entries : ℕ) (lay : Layout) (set : Settings) : Type 0 where
  pub layout : lay ≡ layout_of s
  pub settings : set ≡ settings_at s 32
  pub few : lay.n ≤ entries
  pub ready : Ready s lay
  pub readable : (values : List Float) → 5 * lay.n ≤ length values → Readable s lay values
