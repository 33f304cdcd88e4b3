-- A rhythm value never has more than 406 comparisons. Assumes nothing.
use Prim.Native.Nat.{ℕ, zero, suc, ◌+◌, ◌-◌, ◌≤◌, zero-le}
use native.Mathlib.Omega.{arith}
use native.Mathlib.Nat.{le_trans}
use mathlib.Core.Path.{◌≡◌, refl}
use mathlib.Core.Bool.{Bool, true, false, cond}
use mathlib.Core.List.{List}
use borrow.Author.Tests.{ltb-true}
use lib.Dec.{ltb}
use lib.Ieee.{Float, lt}
use Rattle.num_floats.specs.Numbers.{◌⊖◌, ◌⊗◌}
use Rattle.num_floats.specs.Compare.{abs_of}
use Rattle.eval_rhythm.specs.declared.island.RhythmIsland.{RhythmIsland}
use Rattle.eval_rhythm.specs.declared.island.IslandCount.{IslandCount}
use Rattle.eval_rhythm.specs.declared.step.Cell.{Cell}
use Rattle.eval_rhythm.specs.Constants.{three_tenths}
use Rattle.eval_rhythm.specs.Counts.{find_from}
use Rattle.eval_rhythm.specs.Step.{Walk, fresh_walk, deltas_of}
use Rattle.eval_rhythm.specs.Rhythm.{Cells, start_of, cells_at, count_before}
use Rattle.eval_rhythm.specs.Comparisons.{compared_of, compared_at, compared_by, compared_in, turn_at, comparisons_from, comparisons_by, most_comparisons, ComparisonsBounded}
use Rattle.eval_rhythm.proofs.Good.{Good, good_fresh, good_step}
use Rattle.eval_rhythm.proofs.Laws.{start_le, hist_few}

-- a search compares no more than there is
compared_le : (es : List IslandCount) (n : ℕ) (s : RhythmIsland) → compared_of es n s ≤ n
unfolding compared_of
compared_le es n s = go (ltb (find_from es n 0 s) n) refl
  where
    go : (b : Bool) → ltb (find_from es n 0 s) n ≡ b → cond b (find_from es n 0 s + 1) n ≤ n
    go true e = omega (arith, ltb-true (find_from es n 0 s) n e)
    go false e = omega arith

turn_le : (w : Walk) (curr prev last : Cell) (eps : Float) → compared_in w curr prev last eps ≤ w.state.n
unfolding compared_in compared_by
turn_le w curr prev last eps = go w.state.first_delta_switch (lt (abs_of ((deltas_of curr prev last).prev ⊖ (deltas_of curr prev last).curr)) eps)
  where
    go : (b c : Bool) → cond b (cond c 0 (compared_at w)) 0 ≤ w.state.n
    go true true = omega arith
    go true false = compared_le w.counts w.state.n w.state.island
    go false c = omega arith

-- what k turns compare at most after m: turn m + 1 has m - 1 entries
most : ℕ → ℕ → ℕ
most zero m = 0
most (suc k) m = m - 1 + most k (suc m)

add-le : (a b c d : ℕ) → a ≤ b → c ≤ d → a + c ≤ b + d
add-le a b c d h g = omega arith

most_more : (k l m : ℕ) → k ≤ l → most k m ≤ most l m
unfolding most
most_more zero l m h = zero-le
most_more (suc k) zero m h = absurd (omega arith)
most_more (suc k) (suc l) m h = add-le (m - 1) (m - 1) (most k (suc m)) (most l (suc m)) (omega arith) (most_more k l (suc m) (omega arith))

from_le : (v : Cells) (hist : ℕ) (window eps : Float) (k m : ℕ) (w : Walk) → Good m w → comparisons_from v hist window eps k w ≤ most k m
unfolding comparisons_from most
from_le v hist window eps zero m w g = zero-le
from_le v hist window eps (suc k) m w g =
    let now : compared_in w (v (suc k)) (v (suc k + 1)) (v (suc k + 2)) eps ≤ w.state.n = turn_le w (v (suc k)) (v (suc k + 1)) (v (suc k + 2)) eps in
    let rest : comparisons_from v hist window eps k (turn_at v hist window eps (suc k) w) ≤ most k (suc m) =
    from_le v hist window eps k (suc m) (turn_at v hist window eps (suc k) w) (good_step m eps w g _ _ _ _ _) in
    add-le _ (m - 1) _ (most k (suc m)) (le_trans now g.few) rest

-- of a run of at most 30 turns
pub run_bounded : (v : Cells) (hist : ℕ) (window eps : Float) (k : ℕ) → k ≤ 30 → comparisons_from v hist window eps k (fresh_walk eps) ≤ most_comparisons
unfolding most
run_bounded v hist window eps k h = le_trans (from_le v hist window eps k 0 (fresh_walk eps) (good_fresh eps)) (most_more k 30 0 h)

-- so the count has room at every turn
pub count_room : (v : Cells) (hist : ℕ) (window eps : Float) (from so_far more rest : ℕ) → from ≤ hist - 2 → hist ≤ 32
    → so_far + more + rest ≡ comparisons_from v hist window eps from (fresh_walk eps) → so_far + more ≤ most_comparisons
count_room v hist window eps from so_far more rest l h e = omega (arith, e, run_bounded v hist window eps from (omega arith))

pub comparisons_bounded : ComparisonsBounded
unfolding comparisons_by start_of
comparisons_bounded os rs j window = go (cells_at os rs j 0).spinner
  where
    go : (b : Bool)
        → cond b 0 (comparisons_from (cells_at os rs j) (count_before j) window (window ⊗ three_tenths) (start_of (cells_at os rs j) (count_before j)) (fresh_walk (window ⊗ three_tenths)))
        ≤ most_comparisons
    go true = omega arith
    go false =
        run_bounded (cells_at os rs j) (count_before j) window (window ⊗ three_tenths) _
        (le_trans (start_le (cells_at os rs j) (count_before j) (count_before j) 0 (omega arith)) (omega (arith, hist_few j (count_before j) refl)))
