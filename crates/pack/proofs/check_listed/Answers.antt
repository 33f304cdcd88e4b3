-- `pack::check_listed` meets its contract. Assumes nothing.
use borrow.Author.Rules.{rules}
use mathlib.Core.Path.{sym, ◌∙◌}
use Rattle.pack_order.proofs.Lies.{is_inside_lem}
use Rattle.pack.proofs.Checks.{runs_past, lies_there}
use Rattle.pack.specs.Pack.{chart_check}
use Rattle.pack.proofs.Rated.{part_chart, part_end}
use mathlib.Core.Path.{ap}
use Rattle.pack.proofs.check_listed.Goals as goal

pub returns-then-not-inside : goal.returns-then-not-inside
returns-then-not-inside c = runs_past _ _ _ _ _ (sym c.inside.ensures ∙ c.if-not-inside.true)

pub length_at-requires : goal.length_at-requires
length_at-requires c = (is_inside_lem _ _ (sym c.inside.ensures ∙ c.if-not-inside.false)).0

pub overflow_add-end : goal.overflow_add-end
overflow_add-end c = let h = part_end _ _ c.length_at.ensures (is_inside_lem _ _ (sym c.inside.ensures ∙ c.if-not-inside.false)) in search rules

pub slice_bounds-check_chart-end : goal.slice_bounds-check_chart-end
slice_bounds-check_chart-end c = let h = part_end _ _ c.length_at.ensures (is_inside_lem _ _ (sym c.inside.ensures ∙ c.if-not-inside.false)) in search rules

pub returns : goal.returns
returns c =
    let a = c.args in
    lies_there _ _ _ _ _ (sym c.inside.ensures ∙ c.if-not-inside.false)
    (c.check_chart.ensures ∙ ap (chart_check a.entries a.short a.finite) (part_chart a.pack.now a.at c.length_at.ensures))
