-- `skills::totals` meets its contract: each call keeps the length of what it is lent, so that the zeros are as many. Assumes nothing.
use Rattle.skills.specs.Strains.{total}
use Rattle.num_floats.specs.Numbers.{zero64}
use lib.Ieee.{Float}
use lib.ListN.{replicate}
use mathlib.Core.List.{List}
use mathlib.Core.Path.{ap, ◌∙◌}
use Prim.Native.Nat.{ℕ}
use Rattle.skills.proofs.totals.Goals as goal

pub returns : goal.returns
unfolding total
returns c =
    let zeros : ℕ → List Float = λ n. replicate n zero64 in
    let alike = c.alike_totals-alike in
    let one = c.skill_total-speed_total in record {
      result = λ i. record { aim = alike.ensures.0 i; aim_no_sliders = alike.ensures.1 i; speed = one.ensures i; flashlight = alike.ensures.2 i };
      first = c.clear.ensures ∙ ap zeros alike.auto.aim;
      second = c.clear-2.ensures ∙ ap zeros alike.auto.aim_no_sliders;
      third = c.clear-3.ensures ∙ ap zeros (one.auto.peaks ∙ alike.auto.tmp);
      fourth = c.clear-4.ensures ∙ ap zeros (one.auto.tmp ∙ alike.auto.flashlight);
    }
