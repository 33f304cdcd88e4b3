-- What the rhythm value reads, and that the part lent gives what the whole table gives. Assumes nothing.
use Prim.Native.Nat.{ℕ, zero, suc, ◌+◌, ◌*◌, ◌-◌, ◌≤◌, ◌<◌}
use native.Mathlib.Omega.{arith}
use mathlib.Core.Path.{◌≡◌, refl, ap}
use mathlib.Core.Bool.{Bool, true, false, cond}
use mathlib.Core.List.{List}
use borrow.Author.Tests.{ltb-true}
use lib.Dec.{ltb}
use lib.ListN.{length}
use lib.Ieee as Ieee
use lib.Ieee.{Float}
use Rattle.num_floats.specs.Numbers.{◌⊖◌}
use Rattle.osu_object.specs.Osu.{Object}
use Rattle.osu_difficulty_object.specs.declared.OsuDifficultyObject.{OsuDifficultyObject}
use Rattle.osu_records.specs.Rows.{record_at}
use Rattle.osu_records.specs.Part.{first_place, last_place, part_at, Within, Covers}
use Rattle.osu_records.specs.declared.Part.{Part}
use Rattle.osu_records.proofs.Parts.{part_in, next_part, view_part}
use Rattle.eval_rhythm.specs.Step.{Walk}
use Rattle.eval_rhythm.specs.Constants.{history_time_max}
use Rattle.eval_rhythm.specs.Comparisons.{compared_in, comparisons_from, comparisons_by, comparisons_at_place}
use Rattle.eval_rhythm.specs.Rhythm.{Cells, run_of, near_of, start_from, start_of, rhythm_by, cell_of, cells_at, count_before, rhythm_at_place}

-- the run begins at least two places short of the history
module _ (v : Cells) (hist : ℕ) where
  pub start_le : (left r : ℕ) → r ≤ hist - 2 → start_from v hist left r ≤ hist - 2
  unfolding start_from
  start_le zero r h = h
  start_le (suc left) r h =
      go (ltb (r + 2) hist) refl (Ieee.lt ((v 0).start_time ⊖ (v (r + 1)).start_time) history_time_max) (λ l. start_le left (r + 1) l)
    where
      go : (b : Bool) → ltb (r + 2) hist ≡ b → (c : Bool) → (r + 1 ≤ hist - 2 → start_from v hist left (r + 1) ≤ hist - 2)
          → cond (cond b c false) (start_from v hist left (r + 1)) r ≤ hist - 2
      go true e true f = let l : r + 2 < hist = ltb-true (r + 2) hist e in f (omega arith)
      go true e false f = h
      go false e c f = h

-- ---- two views that agree as far back as the history goes

module _ (v w : Cells) (hist : ℕ) (same : (k : ℕ) → k ≤ hist → v k ≡ w k) where
  near_same : (r : ℕ) → near_of v hist r ≡ near_of w hist r
  near_same r = go (ltb (r + 2) hist) refl
    where
      go : (b : Bool) → ltb (r + 2) hist ≡ b
          → cond b (Ieee.lt ((v 0).start_time ⊖ (v (r + 1)).start_time) history_time_max) false
          ≡ cond b (Ieee.lt ((w 0).start_time ⊖ (w (r + 1)).start_time) history_time_max) false
      go true e = let h : r + 2 < hist = ltb-true (r + 2) hist e in rw (same 0 (omega arith), same (r + 1) (omega arith))
      go false e = refl

  start_same : (left r : ℕ) → start_from v hist left r ≡ start_from w hist left r
  unfolding start_from
  start_same zero r = refl
  start_same (suc left) r = rw (near_same r, start_same left (r + 1))

  run_same : (window eps : Float) (k : ℕ) (s : Walk) → k ≤ hist - 2 → run_of v hist window eps k s ≡ run_of w hist window eps k s
  unfolding run_of
  run_same window eps zero s h = refl
  run_same window eps (suc k) s h =
      rw (same 0 (omega arith), same (suc k) (omega arith), same (suc k + 1) (omega arith), same (suc k + 2) (omega arith))
      (run_same window eps k _ (omega arith))

  count_same : (window eps : Float) (k : ℕ) (s : Walk) → k ≤ hist - 2 → comparisons_from v hist window eps k s ≡ comparisons_from w hist window eps k s
  unfolding comparisons_from
  count_same window eps zero s h = refl
  count_same window eps (suc k) s h =
      rw (same 0 (omega arith), same (suc k) (omega arith), same (suc k + 1) (omega arith), same (suc k + 2) (omega arith))
      (ap (λ (c : ℕ). compared_in s (w (suc k)) (w (suc k + 1)) (w (suc k + 2)) eps + c) (count_same window eps k _ (omega arith)))

  pub counts_same : (window : Float) → comparisons_by v hist window ≡ comparisons_by w hist window
  unfolding comparisons_by start_of
  counts_same window = rw (count_same _ _ (start_from v hist hist 0) _ (start_le v hist hist 0 (omega arith)), start_same hist 0, same 0 (omega arith))

  pub view-same : (hasNext : Bool) (next other window : Float) → (hasNext ≡ true → next ≡ other)
      → rhythm_by v hist hasNext next window ≡ rhythm_by w hist hasNext other window
  unfolding rhythm_by start_of
  view-same true next other window e =
      rw (run_same _ _ (start_from v hist hist 0) _ (start_le v hist hist 0 (omega arith)), start_same hist 0, same 0 (omega arith), e refl)
  view-same false next other window e =
      rw (run_same _ _ (start_from v hist hist 0) _ (start_le v hist hist 0 (omega arith)), start_same hist 0, same 0 (omega arith))

-- the cells as far back as the history goes, and the next one's delta time: at any two places with as many records before them that count
pub rhythm_same : (os ps : ℕ → Object) (rs qs : ℕ → OsuDifficultyObject) (last end j i : ℕ) (window : Float)
    → count_before j ≡ count_before i
    → ((k : ℕ) → k ≤ count_before j → cells_at os rs j k ≡ cells_at ps qs i k)
    → ltb j last ≡ ltb i end
    → (j < last → (rs (j + 1)).delta_time ≡ (qs (i + 1)).delta_time)
    → rhythm_at_place os rs last j window ≡ rhythm_at_place ps qs end i window
rhythm_same os ps rs qs last end j i window before cells has next =
    rw (← before, ← has)
    (view-same (cells_at os rs j) (cells_at ps qs i) (count_before j) cells (ltb j last) _ _ window (λ b. next (ltb-true j last b)))

-- the comparisons are of the same cells
pub comparisons_same : (os ps : ℕ → Object) (rs qs : ℕ → OsuDifficultyObject) (j i : ℕ) (window : Float)
    → count_before j ≡ count_before i
    → ((k : ℕ) → k ≤ count_before j → cells_at os rs j k ≡ cells_at ps qs i k)
    → comparisons_at_place os rs j window ≡ comparisons_at_place ps qs i window
comparisons_same os ps rs qs j i window before cells = rw (← before) (counts_same (cells_at os rs j) (cells_at ps qs i) (count_before j) cells window)

-- ---- the part that is lent

-- it reaches as far back as the history
pub back_in : {t : List Float} {part : Part} {j : ℕ} (hist : ℕ) → Covers t part j → hist ≡ count_before j → part.first + hist ≤ j
back_in hist h e = omega (arith, h.some, h.from, h.far)

pub hist_few : (j hist : ℕ) → hist ≡ count_before j → hist ≤ 32
hist_few j hist e = omega arith

pub here_in : {t : List Float} {part : Part} {j : ℕ} → Covers t part j → Within t part j
here_in h = record { from = h.from; room = omega (arith, h.from, h.to, h.room) }

pub next_in : {t : List Float} {part : Part} {j : ℕ} → Covers t part j → j < part.last → (j + 1 - part.first < 65536) × (16 * (j + 1 - part.first) + 16 ≤ length t)
next_in h l = (omega (arith, h.few), omega (arith, h.from, h.room))

pub few_steps : (from k hist : ℕ) → hist ≤ 32 → from ≤ hist - 2 → from - k ≤ 31
few_steps from k hist h l = omega arith

-- what the part lent at place j of n gives
module _ (os : ℕ → Object) (t : List Float) (n j : ℕ) (part : Part) (window : Float) (one : 1 ≤ j) (inside : j < n) (f : part.first ≡ first_place j)
    (l : part.last ≡ last_place j n) where
  cells_part : (k : ℕ) → k ≤ count_before j → cells_at os (part_at (part_in t part) part) j k ≡ cells_at os (record_at t) j k
  cells_part k h = ap cell_of (view_part t j n part one inside f l os 32 k (omega arith) h)

  pub rhythm_part : rhythm_at_place os (part_at (part_in t part) part) part.last j window ≡ rhythm_at_place os (record_at t) (last_place j n) j window
  rhythm_part =
      rhythm_same os os (part_at (part_in t part) part) (record_at t) part.last (last_place j n) j j window refl cells_part
      (ap (ltb j) l)
      (λ h. ap (λ (r : OsuDifficultyObject). r.delta_time) (next_part t j n part one inside f l h))

  pub comparisons_part : comparisons_at_place os (part_at (part_in t part) part) j window ≡ comparisons_at_place os (record_at t) j window
  comparisons_part = comparisons_same os os (part_at (part_in t part) part) (record_at t) j j window refl cells_part
