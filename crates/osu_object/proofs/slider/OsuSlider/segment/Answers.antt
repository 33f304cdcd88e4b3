-- `osu_object::slider::OsuSlider::segment` meets its contract. Assumes nothing.
use borrow.Author.Rules.{rules}
use borrow.Author.Tests.{tests}
use mathlib.Core.Path.{◌≡◌, refl}
use mathlib.Core.Bool.{true, false}
use Rattle.std.proofs.lemmas.Iterator.{first_from_Range}
use Rattle.osu_object.specs.Osu.{point_list}
use Rattle.osu_object.specs.Path.{segment_of, reaches}
use Rattle.osu_object.proofs.Lists.{length_list, segment_at}
use Rattle.osu_object.proofs.slider.OsuSlider.segment.Goals as goal

pub returns : goal.returns
unfolding segment_of
returns c =
    let far = reaches (point_list c.args.self.now.chart.now c.args.self.now.lay c.args.self.now.runs) c.args.d in
    simp (c.unwrap_or.ensures, length_list)
    (segment_at far _ _ c.find.result refl c.args.self.now.slides.points_some
    (first_from_Range _ _ _ c.find.result (λ k. far k ≡ true) (λ k. far k ≡ false) c.find.ensures.ran (λ x q k. search (rules, tests)) (λ x q k. search (rules, tests))))
