-- What the counts depend on: the times, values and kinds of places 1 to n - 1. Assumes nothing.
use Prim.Native.Nat.{ℕ, zero, suc, ◌+◌, ◌-◌, ◌≤◌, ◌<◌}
use native.Mathlib.Omega.{arith}
use mathlib.Core.Path.{◌≡◌, refl}
use mathlib.Core.Bool.{Bool, cond}
use mathlib.Core.List.{List, ◌∷◌}
use lib.Ieee.{Float}
use Rattle.skills.specs.declared.Skill.{Skill}
use Rattle.skills.specs.declared.Skill.TheVariants.{Aim, AimNoSliders, Speed}
use Rattle.skills.specs.Strains.{strain_at}
use Rattle.skills.proofs.Local.{strain_local, total_local}
use Rattle.skills_counts.specs.Lists.{count_top_weighted_strains, count_top_weighted_sliders, get_difficult_sliders, relevant_note_count}
use Rattle.skills_counts.specs.Counts.{list_from, every, object_strains, slider_strains, counts_by, counts}

list_local : (keeps keeps' : ℕ → Bool) (f f' : ℕ → Float) (j count : ℕ) → ((i : ℕ) → j ≤ i → i < j + count → keeps i ≡ keeps' i)
    → ((i : ℕ) → j ≤ i → i < j + count → f i ≡ f' i) → list_from keeps f j count ≡ list_from keeps' f' j count
unfolding list_from
list_local keeps keeps' f f' j zero hk hf = refl
list_local keeps keeps' f f' j (suc count) hk hf = λ t.
    let rest = list_local keeps keeps' f f' (suc j) count (λ i p q. hk i (omega arith) (omega arith)) (λ i p q. hf i (omega arith) (omega arith)) t in
    cond (hk j (omega arith) (omega arith) t) (hf j (omega arith) (omega arith) t ∷ rest) rest

module _ (d d' : ℕ → Float) (sl sl' : ℕ → Bool) (vs vs' : ℕ → List Float) (s s' : ℕ → Float) (n : ℕ) (hs : (i : ℕ) → i < n → s i ≡ s' i) (hd : (i : ℕ) → 1 ≤ i → i < n → d i ≡ d' i)
    (hk : (i : ℕ) → 1 ≤ i → i < n → sl i ≡ sl' i) (hv : (i : ℕ) → 1 ≤ i → i < n → vs i ≡ vs' i) where
  strain_same : (k : Skill) (i : ℕ) → 1 ≤ i → i < 1 + (n - 1) → strain_at d vs k i ≡ strain_at d' vs' k i
  strain_same k i p q = strain_local d d' vs vs' k i (λ m x y. hd m x (omega arith)) (λ m x y. hv m x (omega arith))

  objects_local : (k : Skill) → object_strains d sl vs n k ≡ object_strains d' sl' vs' n k
  objects_local k = list_local every every (strain_at d vs k) (strain_at d' vs' k) 1 (n - 1) (λ i p q. refl) (strain_same k)

  sliders_local : (k : Skill) → slider_strains d sl vs n k ≡ slider_strains d' sl' vs' n k
  sliders_local k = list_local sl sl' (strain_at d vs k) (strain_at d' vs' k) 1 (n - 1) (λ i p q. hk i p (omega arith)) (strain_same k)

  pub counts_local : counts s d sl vs n ≡ counts s' d' sl' vs' n
  unfolding counts counts_by
  counts_local = λ t.
      let by = total_local d d' vs vs' s s' n hs hd hv t in
      record {
        aim_difficult_strain_count = count_top_weighted_strains (objects_local Aim t) by.aim;
        aim_no_sliders_difficult_strain_count = count_top_weighted_strains (objects_local AimNoSliders t) by.aim_no_sliders;
        speed_difficult_strain_count = count_top_weighted_strains (objects_local Speed t) by.speed;
        aim_no_sliders_top_weighted_slider_count = count_top_weighted_sliders (sliders_local AimNoSliders t) by.aim_no_sliders;
        speed_top_weighted_slider_count = count_top_weighted_sliders (sliders_local Speed t) by.speed;
        aim_difficult_slider_count = get_difficult_sliders (sliders_local Aim t);
        speed_note_count = relevant_note_count (objects_local Speed t);
      }
