-- `osu_object::slider::OsuSlider::nested` meets its contract. Assumes nothing.
use Rattle.osu_object.proofs.Lists.{list_at}
use mathlib.Core.Path.{sym, ◌∙◌}
use borrow.Author.Rules.{rules}
use Rattle.osu_object.proofs.slider.OsuSlider.nested.Goals as goal

pub returns : goal.returns
returns c = c.nested_of.ensures ∙ sym (list_at _ _ _ _ _ (search rules))
