-- `skills_playing::totals_while_playing` meets its contract. Assumes nothing.
use Prim.Native.Nat.{ℕ}
use mathlib.Core.Path.{ap, ◌∙◌}
use mathlib.Core.List.{List}
use lib.ListN.{replicate}
use lib.Ieee.{Float}
use Rattle.num_floats.specs.Numbers.{zero64}
use Rattle.skills_playing.proofs.totals_while_playing.Goals as goal

pub returns : goal.returns
returns c =
    let zeros : ℕ → List Float = λ n. replicate n zero64 in
    let f = c.fill_entries in record {
      entries = f.ensures;
      first = c.clear.ensures ∙ ap zeros f.auto.aim;
      second = c.clear-2.ensures ∙ ap zeros f.auto.aim_no_sliders;
      third = c.clear-3.ensures ∙ ap zeros f.auto.speed;
      fourth = c.clear-4.ensures ∙ ap zeros f.auto.flashlight;
    }
