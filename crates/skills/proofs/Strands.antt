-- A skill's walk, place by place; and the skills whose strains decay as aim's does. Assumes nothing.
use Prim.Native.Nat.{ℕ, ◌≤◌, ◌<◌, ◌+◌, ◌-◌}
use native.Mathlib.Omega.{arith}
use mathlib.Core.Path.{◌≡◌, refl, sym, ap, ap₂, ◌∙◌, subst}
use mathlib.Core.List.{List}
use lib.ListN.{length, take, set}
use lib.Ieee.{Float}
use Rattle.num_floats.specs.Numbers.{◌⊖◌, ◌⊘◌, zero64}
use Rattle.chart_fields.specs.Objects.{fields_of}
use Rattle.chart_fields.specs.declared.Layout.{Layout}
use Rattle.num_tables.specs.Parts.{row}
use Rattle.skills.specs.declared.Sections.{Sections}
use Rattle.skills.specs.declared.Skill.{Skill}
use Rattle.skills.specs.declared.Skill.TheVariants.{Aim, AimNoSliders, Flashlight}
use Rattle.skills.specs.declared.Strand.{Strand}
use Rattle.skills.specs.Strains.{base, elapsed, strain_decay, strain_next, peaks_to, strain_at}
use Rattle.skills.specs.Chart.{start_at, delta_at}
use Rattle.skills.specs.Shown.{opened}
use Rattle.skills.specs.Strands.{strain_by, started_with, Advanced, PeaksIn}
use Rattle.skills.proofs.Places.{Walked, walked_first, walked_step, walked_done}

-- a skill whose strain decays as aim's does
pub record Alike (k : Skill) : Type 0 where
  pub time : (delta : Float) → elapsed k delta ≡ delta
  pub rate : base k ≡ base Aim

pub alike_aim : Alike Aim
unfolding elapsed base
alike_aim = record { time = λ delta. refl; rate = refl }

pub alike_plain : Alike AimNoSliders
unfolding elapsed base
alike_plain = record { time = λ delta. refl; rate = refl }

pub alike_light : Alike Flashlight
unfolding elapsed base
alike_light = record { time = λ delta. refl; rate = refl }

-- the decay of aim's strain is that of each such skill's
pub alike_decay : (k : Skill) → Alike k → (delta decay : Float) → decay ≡ strain_decay (elapsed Aim delta) (base Aim) → decay ≡ strain_decay (elapsed k delta) (base k)
alike_decay k al delta decay e = e ∙ ap₂ (λ (t b : Float). strain_decay t b) (alike_aim.time delta ∙ sym (al.time delta)) (sym al.rate)

next_by : (k : Skill) → (c delta decay : Float) (v : List Float) → decay ≡ strain_decay (elapsed k delta) (base k) → strain_by k c decay v ≡ strain_next k c delta v
unfolding strain_next
next_by k c delta decay v e = ap (λ (x : Float). strain_by k c x v) e

module _ (s : List ℕ) (lay : Layout) (clock : Float) (values : List Float) (k : Skill) where
  pub strand_first : (p : List Float) (n : ℕ) (raw : Float) (w : Sections) (g : Strand) → 2 ≤ n → raw ≡ (fields_of s lay 0).start → w ≡ opened ((fields_of s lay 1).start ⊘ clock)
      → g ≡ started_with w → Walked s lay clock values k p n p g.sections raw zero64 g.current g.strain 1
  strand_first p n raw w g h er ew eg =
      subst (λ (x : Strand). Walked s lay clock values k p n p x.sections raw zero64 x.current x.strain 1) (sym eg) (walked_first s lay clock values k p n raw w h er ew)

  module _ {p₀ : List Float} {n : ℕ} {p : List Float} {g : Strand} {raw last : Float} {j : ℕ}
      (m : Walked s lay clock values k p₀ n p g.sections raw last g.current g.strain j) (r : 8192 ≤ length p₀) where
    pub strand_next : j < n → (raw' : Float) → raw' ≡ (fields_of s lay j).start → (decay : Float) → decay ≡ strain_decay (elapsed k ((raw' ⊖ raw) ⊘ clock)) (base k)
        → (p' : List Float) (g' : Strand) → length p' ≡ length p → Advanced k decay last (raw' ⊘ clock) (row 5 values j) p g p' g'
        → Walked s lay clock values k p₀ n p' g'.sections raw' (raw' ⊘ clock) g'.current g'.strain (j + 1)
    strand_next h raw' er decay ed p' g' kp ad =
        walked_step s lay clock values k m r h raw' er p' g'.sections kp ad.within g'.current g'.strain
        (ad.current_is ∙ next_by k g.current ((raw' ⊖ raw) ⊘ clock) decay (row 5 values j) ed) ad.strain_is ad.shows

    pub strand_done : n ≤ j → (x : ℕ) (p' : List Float) → x ≡ g.sections.count + 1 → p' ≡ set p g.sections.count g.sections.peak
        → PeaksIn p' x (peaks_to k (start_at s lay clock) (strain_at (delta_at s lay clock) (row 5 values) k) (n - 1))
    strand_done h x p' ex ep =
        (omega (arith, ex, m.within), ap₂ (λ (i : ℕ) (l : List Float). take i l) ex ep ∙ walked_done s lay clock values k m r h)
