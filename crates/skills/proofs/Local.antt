-- What strains and totals depend on: a strain on nothing past its place, the totals over places 1 to n - 1 on nothing past them. Assumes nothing.
use mathlib.Core.Path.{◌≡◌, refl, ap}
use mathlib.Core.List.{List, []}
use Prim.Native.Nat.{ℕ, zero, suc, ◌-◌, ◌≤◌, ◌<◌}
use native.Mathlib.Omega.{arith}
use lib.Ieee.{Float}
use lib.ListN.{length}
use Rattle.num_floats.specs.Numbers.{zero64}
use Rattle.num_floats.specs.Compare.{max_of}
use Rattle.skills.specs.declared.Skill.{Skill}
use Rattle.skills.specs.declared.Skill.TheVariants.{Aim, AimNoSliders, Speed, Flashlight}
use Rattle.skills.specs.Value.{difficulty_of}
use Rattle.skills.specs.Strains.{strain_next, joined, initial_strain, room, Walk, first_end, close_to, join, closed, reached, walk, peaks_to, current, strain_at, strains, total_to, total}

-- ---- the walk sees the start times and strains up to its place, and joins the strain there by max

module _ (k : Skill) where
  pub joins_here : (starts strs : ℕ → Float) (n : ℕ)
      → (walk k starts strs (suc n)).peak ≡ max_of (reached k starts strs (suc n) (walk k starts strs n)).peak (strs (suc n))
  unfolding walk
  joins_here starts strs n = refl

  module _ (t t' x x' : ℕ → Float) where
    reached_local : (j : ℕ) (w w' : Walk) → ((i : ℕ) → i ≤ j → t i ≡ t' i) → ((i : ℕ) → i ≤ j → x i ≡ x' i) → w ≡ w'
        → reached k t x j w ≡ reached k t' x' j w'
    unfolding reached
    reached_local j w w' ht hx e = λ i.
        close_to (room - length (e i).peaks) (initial_strain k (hx (j - 1) (omega arith) i) (ht (j - 1) (omega arith) i)) (ht j (omega arith) i) (e i)

    pub walk_local : (n : ℕ) → ((i : ℕ) → i ≤ n → t i ≡ t' i) → ((i : ℕ) → i ≤ n → x i ≡ x' i) → t 1 ≡ t' 1
        → walk k t x n ≡ walk k t' x' n
    unfolding walk
    walk_local zero ht hx h = λ i. record { peaks = []; peak = zero64; end = first_end (h i) }
    walk_local (suc n) ht hx h = λ i.
        join (hx (suc n) (omega arith) i) (
        reached_local (suc n) (walk k t x n) (walk k t' x' n) ht hx
        (walk_local n (λ m p. ht m (omega arith)) (λ m p. hx m (omega arith)) h) i
        )

-- ---- strains

module _ (d d' : ℕ → Float) (vs vs' : ℕ → List Float) where
  current_local : (k : Skill) (j : ℕ) → ((i : ℕ) → 1 ≤ i → i ≤ j → d i ≡ d' i) → ((i : ℕ) → 1 ≤ i → i ≤ j → vs i ≡ vs' i)
      → current d vs k j ≡ current d' vs' k j
  unfolding current
  current_local k zero hd hv = refl
  current_local k (suc j) hd hv = λ t.
      strain_next k (current_local k j (λ i x y. hd i x (omega arith)) (λ i x y. hv i x (omega arith)) t) (hd (suc j) (omega arith) (omega arith) t)
      (hv (suc j) (omega arith) (omega arith) t)

  pub strain_local : (k : Skill) (j : ℕ) → ((i : ℕ) → 1 ≤ i → i ≤ j → d i ≡ d' i) → ((i : ℕ) → 1 ≤ i → i ≤ j → vs i ≡ vs' i)
      → strain_at d vs k j ≡ strain_at d' vs' k j
  unfolding strain_at
  strain_local k zero hd hv = refl
  strain_local k (suc j) hd hv = λ t. joined k (current_local k (suc j) hd hv t) (hv (suc j) (omega arith) (omega arith) t)

  pub strains_local : (j : ℕ) → ((i : ℕ) → 1 ≤ i → i ≤ j → d i ≡ d' i) → ((i : ℕ) → 1 ≤ i → i ≤ j → vs i ≡ vs' i)
      → strains d vs j ≡ strains d' vs' j
  unfolding strains
  strains_local j hd hv = λ t. record {
    aim = strain_local Aim j hd hv t;
    aim_no_sliders = strain_local AimNoSliders j hd hv t;
    speed = strain_local Speed j hd hv t;
    flashlight = strain_local Flashlight j hd hv t;
  }

  -- ---- totals
  module _ (s s' : ℕ → Float) where
    pub one_total_local : (k : Skill) (n : ℕ) → ((i : ℕ) → i < n → s i ≡ s' i) → ((i : ℕ) → 1 ≤ i → i < n → d i ≡ d' i) → ((i : ℕ) → 1 ≤ i → i < n → vs i ≡ vs' i)
        → total_to s d vs k n ≡ total_to s' d' vs' k n
    unfolding total_to peaks_to
    one_total_local k zero hs hd hv = refl
    one_total_local k (suc zero) hs hd hv = refl
    one_total_local k (suc (suc n)) hs hd hv =
        ap (λ (w : Walk). difficulty_of k (closed w))
        (walk_local k s s' (strain_at d vs k) (strain_at d' vs' k) (suc n)
        (λ i p. hs i (omega arith))
        (λ i p. strain_local k i (λ m q r. hd m q (omega arith)) (λ m q r. hv m q (omega arith)))
        (hs 1 (omega arith)))

    pub total_local : (n : ℕ) → ((i : ℕ) → i < n → s i ≡ s' i) → ((i : ℕ) → 1 ≤ i → i < n → d i ≡ d' i) → ((i : ℕ) → 1 ≤ i → i < n → vs i ≡ vs' i)
        → total s d vs n ≡ total s' d' vs' n
    unfolding total
    total_local n hs hd hv = λ t. record {
      aim = one_total_local Aim n hs hd hv t;
      aim_no_sliders = one_total_local AimNoSliders n hs hd hv t;
      speed = one_total_local Speed n hs hd hv t;
      flashlight = one_total_local Flashlight n hs hd hv t;
    }

module _ (starts deltas : ℕ → Float) (vs : ℕ → List Float) where
  -- N of 0 and 1: zeros
  pub one_total_few : (k : Skill) (n : ℕ) → n < 2 → total_to starts deltas vs k n ≡ zero64
  unfolding total_to
  one_total_few k zero h = refl
  one_total_few k (suc zero) h = refl
  one_total_few k (suc (suc n)) h = absurd (omega arith)

  pub total_few : (n : ℕ) → n < 2 → total starts deltas vs n ≡ record { aim = zero64; aim_no_sliders = zero64; speed = zero64; flashlight = zero64 }
  unfolding total
  total_few n h = λ t. record {
    aim = one_total_few Aim n h t;
    aim_no_sliders = one_total_few AimNoSliders n h t;
    speed = one_total_few Speed n h t;
    flashlight = one_total_few Flashlight n h t;
  }

  -- two objects and more: each skill's value of the peaks of the walk over the start times and over the strains
  pub total_by_strains : (k : Skill) (n : ℕ) → 2 ≤ n → total_to starts deltas vs k n ≡ difficulty_of k (peaks_to k starts (strain_at deltas vs k) (n - 1))
  unfolding total_to
  total_by_strains k zero h = absurd (omega arith)
  total_by_strains k (suc zero) h = absurd (omega arith)
  total_by_strains k (suc (suc n)) h =
      let e : suc n ≡ suc (suc n) - 1 = omega arith in
      ap (λ (m : ℕ). difficulty_of k (peaks_to k starts (strain_at deltas vs k) m)) e
