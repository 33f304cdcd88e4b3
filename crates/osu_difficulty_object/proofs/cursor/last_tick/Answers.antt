-- `osu_difficulty_object::cursor::last_tick` meets its contract. Assumes nothing.
use borrow.Author.Rules.{rules}
use borrow.Author.Tests.{tests}
use mathlib.Core.Path.{◌≡◌, sym, subst, ◌∙◌}
use Rattle.std.specs.List.{find}
use Rattle.std.proofs.lemmas.Iterator.Search.{find_from_yields_List}
use Rattle.std.proofs.lemmas.Iterator.Adapters.{option_map_id}
use Rattle.osu_object.specs.Osu.{nested_list, is_tick}
use Rattle.osu_object.proofs.Lists.{length_list}
use Rattle.osu_difficulty_object.specs.Cursor.{last_tick}
use Rattle.osu_difficulty_object.proofs.Backwards.{down, backwards, Last, last_found}
use Rattle.osu_difficulty_object.proofs.cursor.last_tick.Goals as goal

pub returns : goal.returns
unfolding last_tick
returns c =
    let test = is_tick (nested_list c.args.slider.now.chart.now c.args.slider.now.lay c.args.slider.now.runs) in
    let n = c.args.slider.now.runs.nested_count in
    let e : c.find.result ≡ find test (down 0 n) =
    sym (option_map_id c.find.result)
    ∙ find_from_yields_List test _ _ c.find.result c.find.ensures.ran (backwards n c.rev.ensures.source) (λ x b q k. search (rules, tests)) in
    simp length_list (subst (Last test n) (sym e) (last_found test n))
