-- `pack::key_of` meets its contract. Assumes nothing.
use mathlib.Core.Path.{◌∙◌}
use native.Mathlib.Omega.{arith}
use Rattle.skills.specs.Chart.{totals_of}
use Rattle.skills_stars.specs.Stars.{ratings_of}
use Rattle.pack.specs.Pack.{key_from}
use Rattle.pack.proofs.key_of.Goals as goal

pub totals-t-requires : goal.totals-t-requires
totals-t-requires c =
    let s = c.requires in
    (rw c.layout_of-lay.ensures (record { holds = s.holds; rows = s.rows }), s.aim, s.aim_no_sliders, s.speed, s.flashlight)

pub overflow_cast-lay : goal.overflow_cast-lay
overflow_cast-lay c = let h = c.requires.holds.few in rw c.layout_of-lay.ensures (omega (arith, h))

pub returns : goal.returns
unfolding key_from
returns c =
    let a = c.args in
    let l = c.layout_of-lay.ensures in
    let s = c.settings_at-clock.ensures in
    let t = c.totals-t.ensures.result ∙ (λ j. totals_of a.chart.now (l j) (s j).clock_rate a.values.now) in
    let r = c.eval-r.ensures ∙ (λ j. ratings_of (t j) (l j).n a.asked) in
    λ j. record { stars = (r j).stars; aim = (t j).aim; speed = (t j).speed; flashlight = (t j).flashlight }
