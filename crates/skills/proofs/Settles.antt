-- On a chart that opens, the section walk never stops for the bound on the number of sections. Assumes nothing.
use Prim.Native.Nat.{ℕ, zero, suc, ◌-◌, ◌≤◌, ◌<◌}
use native.Mathlib.Omega.{arith}
use mathlib.Core.Path.{◌≡◌, refl, sym, ap, ◌∙◌}
use mathlib.Core.Bool.{Bool, true, false, cond}
use mathlib.Core.List.{List}
use lib.ListN.{length}
use lib.Ieee.{Float, lt}
use Rattle.chart_fields.specs.Objects.{fields_of}
use Rattle.chart_opening.specs.Header.{layout_of, settings_of}
use Rattle.chart_opening.specs.Conditions.{Opens}
use Rattle.skills.specs.declared.Skill.{Skill}
use Rattle.skills.specs.Strains.{initial_strain, room, Walk, close_one, close_to, reached, walk}
use Rattle.skills.specs.Chart.{start_at}
use Rattle.skills.proofs.Closing.{close_stop}
use Rattle.skills.proofs.Places.{start_at_lem}
use Rattle.skills.proofs.Times.{enough}
use Rattle.skills.proofs.Accepted.{opens_passes}

-- where the test, and not the number of closings, ended it, more closings change nothing
close_any : (initial : Float → Float) (start : Float) (n m : ℕ) (w : Walk) → n ≤ m → lt (close_to n initial start w).end start ≡ false → close_to m initial start w ≡ close_to n initial start w
unfolding close_to
close_any initial start zero m w h t = close_stop initial start m w t
close_any initial start (suc n) zero w h t = absurd (omega arith)
close_any initial start (suc n) (suc m) w h t = go (close_any initial start n m (close_one initial w) (omega arith)) (lt w.end start) refl
  where
    go : (lt (close_to n initial start (close_one initial w)).end start ≡ false → close_to m initial start (close_one initial w) ≡ close_to n initial start (close_one initial w))
        → (b : Bool) → lt w.end start ≡ b → cond b (close_to m initial start (close_one initial w)) w ≡ cond b (close_to n initial start (close_one initial w)) w
    go r true e = r (simp e at t)
    go r false e = refl

module _ (s : List ℕ) (opens : Opens s) (k : Skill) (strains : ℕ → Float) where
  abbrev starts : ℕ → Float
  starts j = start_at s (layout_of s) (settings_of s).clock_rate j

  -- before the strain at place j + 1 joins, its start isn't above its section's end
  pub walk_settles : (j : ℕ) → suc j < (layout_of s).n → lt (reached k starts strains (suc j) (walk k starts strains j)).end (starts (suc j)) ≡ false
  walk_settles j h =
      enough (layout_of s).n (λ i. (fields_of s (layout_of s) i).start) (settings_of s).clock_rate (opens_passes s opens (omega arith)) k starts strains
      (λ i b. start_at_lem s (layout_of s) (settings_of s).clock_rate i b) j h

  -- so that the walk is the same with any larger bound
  pub walk_unbounded : (j m : ℕ) → suc j < (layout_of s).n → room ≤ m
      → close_to m (initial_strain k (strains j) (starts j)) (starts (suc j)) (walk k starts strains j) ≡ reached k starts strains (suc j) (walk k starts strains j)
  unfolding reached
  walk_unbounded j m h l =
      let w = walk k starts strains j in
      let e : suc j - 1 ≡ j = omega arith in
      ap (λ (i : ℕ). close_to m (initial_strain k (strains i) (starts i)) (starts (suc j)) w) (sym e)
      ∙ close_any (initial_strain k (strains (suc j - 1)) (starts (suc j - 1))) (starts (suc j)) (room - length w.peaks) m w (omega arith) (walk_settles j h)
