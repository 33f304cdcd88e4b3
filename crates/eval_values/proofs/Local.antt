-- What the five values of a place see: objects and times as far back as the rhythm's history, records as far back as the flashlight's. Assumes nothing.
use Prim.Native.Nat.{ℕ, suc, ◌+◌, ◌-◌, min, ◌≤◌, ◌<◌}
use native.Mathlib.Omega.{arith}
use native.Mathlib.Nat.{sub-zero}
use mathlib.Core.Path.{◌≡◌, refl, sym, ap, ◌∙◌}
use mathlib.Core.Bool.{Bool, true, false}
use lib.Dec.{ltb}
use Rattle.chart_opening.specs.declared.Settings.{Settings}
use Rattle.osu_object.specs.Osu.{Object}
use Rattle.osu_object.specs.Base.{base_of, end_of, repeats_of}
use Rattle.osu_difficulty_object.specs.declared.OsuDifficultyObject.{OsuDifficultyObject}
use Rattle.osu_records.specs.Sight.{sight_of, view_of}
use Rattle.osu_records.proofs.Parts.{ltb_iff}
use Rattle.eval_aim.specs.Aim.{aim_at_place}
use Rattle.eval_aim.proofs.Value.{aim_same}
use Rattle.eval_speed.specs.Speed.{speed_at_place}
use Rattle.eval_speed.proofs.Laws.{speed_same}
use Rattle.eval_rhythm.specs.Rhythm.{cell_of, cells_at, rhythm_at_place}
use Rattle.eval_rhythm.proofs.Laws.{rhythm_same}
use Rattle.eval_flashlight.specs.Flashlight.{evaluator_of, ends_of, flashlight_at_place}
use Rattle.eval_flashlight.proofs.Walk.{flashlight_same}
use Rattle.eval_values.specs.Values.{values_of}

sight_same : (r q : OsuDifficultyObject) (o p : Object) → r ≡ q → o ≡ p → sight_of r o ≡ sight_of q p
sight_same r q o p e f = rw (e, f)

cell_same : (r q : OsuDifficultyObject) (o p : Object) → r.start_time ≡ q.start_time → r.delta_time ≡ q.delta_time → o ≡ p
    → cell_of (sight_of r o) ≡ cell_of (sight_of q p)
unfolding cell_of
cell_same r q o p e d f = rw (e, d, f)

-- ---- laws of numbers on their own, with few facts in reach of `omega`

fewer : (c j i : ℕ) → c ≤ 32 → min (j - 1) 32 ≡ min (i - 1) 32 → min (j - 1) c ≡ min (i - 1) c
fewer c j i h e = omega arith

within : (c d n k : ℕ) → c ≤ d → k ≤ min n c → k ≤ min n d
within c d n k h b = omega arith

one_back : (j c : ℕ) → 0 < j - 1 → 1 ≤ c → 1 ≤ min (j - 1) c
one_back j c h one = omega arith

second : (j i : ℕ) → min (j - 1) 32 ≡ min (i - 1) 32 → 0 < i - 1 → 0 < j - 1
second j i e h = omega arith

first : (j i : ℕ) → min (j - 1) 32 ≡ min (i - 1) 32 → i - 1 ≤ 0 → j - 1 ≤ 0
first j i e h = omega arith

-- ---- two places with as many records before them that count, from which the same is seen

module _ (set : Settings) (last end j i : ℕ) (os ps : ℕ → Object) (rs qs : ℕ → OsuDifficultyObject)
    (before : min (j - 1) 32 ≡ min (i - 1) 32)
    (objects : (k : ℕ) → k ≤ min (j - 1) 32 → os (j - k) ≡ ps (i - k))
    (records : (k : ℕ) → k ≤ min (j - 1) 10 → rs (j - k) ≡ qs (i - k))
    (starts : (k : ℕ) → k ≤ min (j - 1) 32 → (rs (j - k)).start_time ≡ (qs (i - k)).start_time)
    (deltas : (k : ℕ) → k ≤ min (j - 1) 32 → (rs (j - k)).delta_time ≡ (qs (i - k)).delta_time)
    (has : ltb j last ≡ ltb i end)
    (next : j < last → (rs (j + 1)).delta_time ≡ (qs (i + 1)).delta_time) where
  object_here : os j ≡ ps i
  object_here = ap os (sym (sub-zero j)) ∙ objects 0 (omega arith) ∙ ap ps (sub-zero i)

  record_here : rs j ≡ qs i
  record_here = ap rs (sym (sub-zero j)) ∙ records 0 (omega arith) ∙ ap qs (sub-zero i)

  view-same : (k : ℕ) → k ≤ min (j - 1) 10 → view_of os rs j k ≡ view_of ps qs i k
  view-same k b = sight_same (rs (j - k)) (qs (i - k)) (os (j - k)) (ps (i - k)) (records k b) (objects k (within 10 32 (j - 1) k (omega arith) b))

  cells_same : (k : ℕ) → k ≤ min (j - 1) 32 → cells_at os rs j k ≡ cells_at ps qs i k
  cells_same k b = cell_same (rs (j - k)) (qs (i - k)) (os (j - k)) (ps (i - k)) (starts k b) (deltas k b) (objects k b)

  aim_here : (sliders : Bool) → aim_at_place os rs j sliders ≡ aim_at_place ps qs i sliders
  aim_here sliders =
      aim_same (view_of os rs j) (view_of ps qs i) (j - 1) (i - 1) sliders (fewer 3 j i (omega arith) before)
      (λ k b. view-same k (within 3 10 (j - 1) k (omega arith) b))

  speed_here : speed_at_place os rs last j set.hit_window set.autopilot ≡ speed_at_place ps qs end i set.hit_window set.autopilot
  speed_here =
      speed_same os ps rs qs last end j i set.hit_window set.autopilot
      record_here
      (ltb_iff 0 (j - 1) 0 (i - 1) (second j i before) (first j i before))
      (λ h. ap (λ (r : OsuDifficultyObject). r.travel_dist) (records 1 (one_back j 10 h (omega arith))))
      has
      next
      (ap (λ (o : Object). (base_of o).spinner) object_here)

  rhythm_here : rhythm_at_place os rs last j set.hit_window ≡ rhythm_at_place ps qs end i set.hit_window
  rhythm_here = rhythm_same os ps rs qs last end j i set.hit_window before cells_same has next

  flashlight_here : flashlight_at_place (evaluator_of set) os rs j set.hidden ≡ flashlight_at_place (evaluator_of set) ps qs i set.hidden
  flashlight_here =
      flashlight_same (evaluator_of set) (view_of os rs j) (view_of ps qs i) (ends_of os j) (ends_of ps i) (repeats_of (os j)) (repeats_of (ps i)) (j - 1) (i - 1) set.hidden
      (fewer 10 j i (omega arith) before)
      view-same
      (λ k b. ap end_of (objects k (within 10 32 (j - 1) k (omega arith) b)))
      (λ h. ap repeats_of object_here)

  pub values_same : values_of set last os rs j ≡ values_of set end ps qs i
  unfolding values_of
  values_same = rw (aim_here true, aim_here false, speed_here, rhythm_here, flashlight_here)

-- ---- one place: objects from j - 33 on, records from j - 10 on, and of records from j - 32 on the times

back_one : (j c k : ℕ) → 1 ≤ j → k ≤ min (j - 1) c → 1 ≤ j - k
back_one j c k one b = omega arith

back_far : (j c d k : ℕ) → c ≤ d → k ≤ min (j - 1) c → j ≤ j - k + d
back_far j c d k h b = omega arith

back_in : (j l k : ℕ) → j ≤ l → j - k ≤ l
back_in j l k h = omega arith

next_one : (j : ℕ) → 1 ≤ j + 1
next_one j = omega arith

next_far : (j d : ℕ) → j ≤ j + 1 + d
next_far j d = omega arith

next_in : (j l : ℕ) → j < l → j + 1 ≤ l
next_in j l h = omega arith

pub values_local : (s : Settings) (l : ℕ) (os os' : ℕ → Object) (rs rs' : ℕ → OsuDifficultyObject) (j : ℕ)
    → 1 ≤ j → j ≤ l → l ≤ j + 1
    → ((i : ℕ) → j ≤ i + 33 → i ≤ l → os i ≡ os' i)
    → ((i : ℕ) → 1 ≤ i → j ≤ i + 10 → i ≤ l → rs i ≡ rs' i)
    → ((i : ℕ) → 1 ≤ i → j ≤ i + 32 → i ≤ l → (rs i).start_time ≡ (rs' i).start_time)
    → ((i : ℕ) → 1 ≤ i → j ≤ i + 32 → i ≤ l → (rs i).delta_time ≡ (rs' i).delta_time)
    → values_of s l os rs j ≡ values_of s l os' rs' j
values_local s l os os' rs rs' j one inside near objects records starts deltas =
    values_same s l l j j os os' rs rs' refl
    (λ k b. objects (j - k) (back_far j 32 33 k (omega arith) b) (back_in j l k inside))
    (λ k b. records (j - k) (back_one j 10 k one b) (back_far j 10 10 k (omega arith) b) (back_in j l k inside))
    (λ k b. starts (j - k) (back_one j 32 k one b) (back_far j 32 32 k (omega arith) b) (back_in j l k inside))
    (λ k b. deltas (j - k) (back_one j 32 k one b) (back_far j 32 32 k (omega arith) b) (back_in j l k inside))
    refl
    (λ h. deltas (j + 1) (next_one j) (next_far j 32) (next_in j l h))

-- ---- the next place: past the first places its number counts for nothing

past : (j : ℕ) → 33 ≤ j → min (suc j - 1) 32 ≡ min (j - 1) 32
past j h = omega arith

back_suc : (j k : ℕ) → 33 ≤ j → k ≤ min (suc j - 1) 32 → suc j - k ≡ suc (j - k)
back_suc j k h b = omega arith

suc_one : (j c k : ℕ) → c ≤ 32 → 33 ≤ j → k ≤ min (suc j - 1) c → 1 ≤ j - k
suc_one j c k f h b = omega arith

suc_far : (j c d k : ℕ) → c ≤ d → k ≤ min (suc j - 1) c → j ≤ j - k + d
suc_far j c d k h b = omega arith

suc-lt : (j l : ℕ) → suc j < suc l → j < l
suc-lt j l h = omega arith

lt-suc : (j l : ℕ) → j < l → suc j < suc l
lt-suc j l h = omega arith

le-suc : (j l : ℕ) → l ≤ j → suc l ≤ suc j
le-suc j l h = omega arith

next_suc : (j : ℕ) → suc j + 1 ≡ suc (j + 1)
next_suc j = omega arith

pub values_moves : (s : Settings) (l : ℕ) (os os' : ℕ → Object) (rs rs' : ℕ → OsuDifficultyObject) (j : ℕ) → 33 ≤ j → j ≤ l
    → ((i : ℕ) → j ≤ i + 33 → i ≤ l → os' (suc i) ≡ os i)
    → ((i : ℕ) → 1 ≤ i → j ≤ i + 10 → i ≤ l → rs' (suc i) ≡ rs i)
    → ((i : ℕ) → 1 ≤ i → j ≤ i + 32 → i ≤ l → (rs' (suc i)).start_time ≡ (rs i).start_time)
    → ((i : ℕ) → 1 ≤ i → j ≤ i + 32 → i ≤ l → (rs' (suc i)).delta_time ≡ (rs i).delta_time)
    → values_of s (suc l) os' rs' (suc j) ≡ values_of s l os rs j
values_moves s l os os' rs rs' j far inside objects records starts deltas =
    values_same s (suc l) l (suc j) j os' os rs' rs (past j far)
    (λ k b. ap os' (back_suc j k far b) ∙ objects (j - k) (suc_far j 32 33 k (omega arith) b) (back_in j l k inside))
    (λ k b.
    ap rs' (back_suc j k far (within 10 32 (suc j - 1) k (omega arith) b))
    ∙ records (j - k) (suc_one j 10 k (omega arith) far b) (suc_far j 10 10 k (omega arith) b) (back_in j l k inside))
    (λ k b.
    ap (λ (p : ℕ). (rs' p).start_time) (back_suc j k far b)
    ∙ starts (j - k) (suc_one j 32 k (omega arith) far b) (suc_far j 32 32 k (omega arith) b) (back_in j l k inside))
    (λ k b.
    ap (λ (p : ℕ). (rs' p).delta_time) (back_suc j k far b)
    ∙ deltas (j - k) (suc_one j 32 k (omega arith) far b) (suc_far j 32 32 k (omega arith) b) (back_in j l k inside))
    (ltb_iff (suc j) (suc l) j l (lt-suc j l) (le-suc j l))
    (λ h. ap (λ (p : ℕ). (rs' p).delta_time) (next_suc j) ∙ deltas (j + 1) (next_one j) (next_far j 32) (next_in j l (suc-lt j l h)))
