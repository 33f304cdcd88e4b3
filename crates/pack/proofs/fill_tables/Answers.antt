-- `pack::fill_tables` meets its contract: what opening fills, under the header's own settings. Assumes nothing.
use mathlib.Core.Path.{◌∙◌}
use Rattle.calls.specs.Calls.{opened, open_records, open_values}
use Rattle.calls_editor.proofs.Fits.{fits}
use Rattle.pack.specs.Pack.{opened_into, tables}
use Rattle.pack.proofs.fill_tables.Goals as goal

pub settings_at-set-requires : goal.settings_at-set-requires
settings_at-set-requires c = (fits _ _ _ c.requires).long

pub fill_tables-requires : goal.fill_tables-requires
fill_tables-requires c = fits _ _ _ c.requires

pub returns : goal.returns
unfolding opened_into opened
returns c =
    let a = c.args in
    let b = a.chart.now in
    let s = c.settings_at-set.ensures in
    let r = c.fill_tables.ensures.records ∙ (λ i. open_records (s i) b a.records.now) in
    let v = c.fill_tables.ensures.values ∙ (λ i. open_values (s i) b (r i) a.values.now) in
    λ i. tables (r i) (v i)
