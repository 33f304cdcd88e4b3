-- `pack::rate_listed` meets its contract. Assumes nothing.
use Rattle.std.specs.Prelude.{Ok}
use borrow.Author.Rules.{rules}
use mathlib.Core.Path.{◌≡◌, sym, ap, ◌∙◌, subst}
use mathlib.Core.List.{List}
use Prim.Native.Nat.{ℕ}
use lib.ListN.{length}
use Rattle.calls.specs.Conditions.{lengths}
use Rattle.calls_figures.specs.Answers.{scratch_of}
use Rattle.pack.specs.Pack.{key_of, chart_verdict, opened_into, tables}
use Rattle.pack.proofs.Checks.{lies}
use Rattle.pack.proofs.Rated.{part_chart, part_end}
use Rattle.pack.proofs.rate_listed.Goals as goal

pub length_at-requires : goal.length_at-requires
length_at-requires c = (lies _ _ _ _ _ _ c.requires).0.0

pub overflow_add-end : goal.overflow_add-end
overflow_add-end c = let h = part_end _ _ c.length_at.ensures (lies _ _ _ _ _ _ c.requires).0 in search rules

pub slice_bounds-rate_chart-end : goal.slice_bounds-rate_chart-end
slice_bounds-rate_chart-end c = let h = part_end _ _ c.length_at.ensures (lies _ _ _ _ _ _ c.requires).0 in search rules

pub rate_chart-requires : goal.rate_chart-requires
rate_chart-requires c =
    let a = c.args in
    subst (λ (b : List ℕ). chart_verdict a.asked (length a.records.now) (length a.values.now)
    (lengths (scratch_of a.aim.now a.aim_no_sliders.now a.speed.now a.flashlight.now)) b ≡ Ok tt)
    (sym (part_chart a.pack.now a.at c.length_at.ensures)) (lies _ _ _ _ _ _ c.requires).1

pub returns : goal.returns
returns c =
    let a = c.args in
    let e = c.rate_chart.ensures in
    let b = part_chart a.pack.now a.at c.length_at.ensures in
    record {
      key = e.key ∙ ap (key_of a.asked) b;
      tables = e.tables ∙ ap (λ (x : List ℕ). opened_into x (tables a.records.now a.values.now)) b;
    }
