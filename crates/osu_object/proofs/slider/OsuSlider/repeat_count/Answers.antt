-- `osu_object::slider::OsuSlider::repeat_count` meets its contract. Assumes nothing.
use borrow.Author.Rules.{rules}
use borrow.Author.Tests.{tests}
use native.Mathlib.Omega.{arith}
use mathlib.Core.Path.{◌∙◌}
use Rattle.std.proofs.lemmas.Iterator.{YieldsList-from_range}
use Rattle.std.proofs.lemmas.Iterator.Consumers.{YieldsList-from_filter, count_from_yields_List}
use Rattle.osu_object.specs.Osu.{nested_list, is_repeat, repeat_count}
use Rattle.osu_object.proofs.Lists.{length_list, count_range}
use Rattle.osu_object.proofs.slider.OsuSlider.repeat_count.Goals as goal

pub returns : goal.returns
unfolding repeat_count
returns c =
    let test = is_repeat (nested_list c.args.self.now.chart.now c.args.self.now.lay c.args.self.now.runs) in
    let n = c.args.self.now.runs.nested_count in
    simp length_list
    (count_from_yields_List _ _ c.count.ensures.ran
    (YieldsList-from_filter _ test (YieldsList-from_range 0 n n c.filter.ensures.source (omega arith)) c.filter.ensures.closure (λ x b q k. search (rules, tests)))
    ∙ count_range test n)
