-- `skills_playing::fill_entries` meets its contract: entries 0 and 1, then the walk's. Assumes nothing.
use Prim.Native.Nat.{◌*◌}
use mathlib.Core.Path.{ap, ◌∙◌}
use Rattle.num_tables.specs.Parts.{put}
use Rattle.skills.specs.declared.Skills.{Skills}
use Rattle.skills_playing.specs.Playing.{total_row}
use Rattle.skills_playing.proofs.Walking.{only_row, first_rows, all_rows}
use Rattle.skills_playing.proofs.fill_entries.Goals as goal

pub returns-then-n-lt1 : goal.returns-then-n-lt1
returns-then-n-lt1 c =
    let x = c.args in
    let first = c.put_row.new.list in
    let e = c.put_row.ensures ∙ ap (λ (t : Skills). put (4 * 0) (total_row t) x.list.now) c.no_totals.ensures in
    only_row x.chart.now x.lay x.clock x.values.now x.list.now first x.lay.n e c.if-n-lt1.true

pub returns-then-n-lt2 : goal.returns-then-n-lt2
returns-then-n-lt2 c =
    let x = c.args in
    let first = c.put_row.new.list in
    let e = c.put_row.ensures ∙ ap (λ (t : Skills). put (4 * 0) (total_row t) x.list.now) c.no_totals.ensures in
    let second = c.put_row-2.new.list in
    let g = c.put_row-2.ensures ∙ ap (λ (t : Skills). put (4 * 1) (total_row t) first) c.no_totals-2.ensures in
    first_rows x.chart.now x.lay x.clock x.values.now x.list.now first x.lay.n e second g c.if-n-lt2.true c.if-n-lt1.false

pub returns : goal.returns
returns c =
    let x = c.args in
    let first = c.put_row.new.list in
    let e = c.put_row.ensures ∙ ap (λ (t : Skills). put (4 * 0) (total_row t) x.list.now) c.no_totals.ensures in
    let second = c.put_row-2.new.list in
    let g = c.put_row-2.ensures ∙ ap (λ (t : Skills). put (4 * 1) (total_row t) first) c.no_totals-2.ensures in
    all_rows x.chart.now x.lay x.clock x.values.now x.list.now first x.lay.n e second g c.if-n-lt2.false c.play.new.list c.play.ensures
