-- How often an island is compared with a kept one while its first match is looked for: document 02, order 12.
-- Counted beside the value's own walk (Step, Rhythm). The test against the island before is no part of a search.
use Rattle.std.specs.Prelude.{ℕ, zero, suc, ◌+◌, ◌≤◌, cond, List, ltb, Float}
use Rattle.std.specs.Float.Ieee as Ieee
use Rattle.num_floats.specs.Numbers.{◌⊖◌, ◌⊗◌}
use Rattle.num_floats.specs.Compare.{abs_of}
use Rattle.osu_object.specs.Osu.{Object}
use Rattle.osu_difficulty_object.specs.declared.OsuDifficultyObject.{OsuDifficultyObject}
use Rattle.eval_rhythm.specs.Constants.{three_tenths}
use Rattle.eval_rhythm.specs.Counts.{find_from}
use Rattle.eval_rhythm.specs.Step.{Walk, fresh_walk, step_of, decay_of, deltas_of}
use Rattle.eval_rhythm.specs.Rhythm.{Cells, start_of, cells_at, count_before}
use Rattle.eval_rhythm.specs.declared.island.RhythmIsland.{RhythmIsland}
use Rattle.eval_rhythm.specs.declared.island.IslandCount.{IslandCount}
use Rattle.eval_rhythm.specs.declared.step.Cell.{Cell}
use Rattle.eval_rhythm.specs.declared.step.Deltas.{Deltas}

-- of a search among the first n entries: those up to and including the match, or all of them
unfoldable pub compared_of : List IslandCount → ℕ → RhythmIsland → ℕ
compared_of es n s =
    let at = find_from es n 0 s in
    cond (ltb at n) (at + 1) n

-- of a switch: the island that ends is looked for among those kept
abbrev pub compared_at : Walk → ℕ
compared_at w = compared_of w.counts w.state.n w.state.island

-- of a turn: it switches where the delta changes while an island is counted
unfoldable pub compared_by : Walk → Deltas → Float → ℕ
compared_by w d eps = cond w.state.first_delta_switch (cond (Ieee.lt (abs_of (d.prev ⊖ d.curr)) eps) 0 (compared_at w)) 0

unfoldable pub compared_in : Walk → Cell → Cell → Cell → Float → ℕ
compared_in w curr prev last eps = compared_by w (deltas_of curr prev last) eps

-- the walk after the turn of the record k places back
abbrev pub turn_at : Cells → ℕ → Float → Float → ℕ → Walk → Walk
turn_at v hist window eps k w =
    step_of w (v k) (v (k + 1)) (v (k + 2)) (decay_of (v 0).start_time (v k).start_time hist k) window eps

-- of the run from the furthest record back, at k, to the record before this one
unfoldable pub comparisons_from : Cells → ℕ → Float → Float → ℕ → Walk → ℕ
comparisons_from v hist window eps zero w = 0
comparisons_from v hist window eps (suc k) w =
    compared_in w (v (suc k)) (v (suc k + 1)) (v (suc k + 2)) eps + comparisons_from v hist window eps k (turn_at v hist window eps (suc k) w)

-- of the value, with the number of records before that count; a spinner's value has no run
unfoldable pub comparisons_by : Cells → ℕ → Float → ℕ
comparisons_by v hist window =
    let eps = window ⊗ three_tenths in
    cond (v 0).spinner 0 (comparisons_from v hist window eps (start_of v hist) (fresh_walk eps))

-- at place j of objects and their records
abbrev pub comparisons_at_place : (ℕ → Object) → (ℕ → OsuDifficultyObject) → ℕ → Float → ℕ
comparisons_at_place os rs j window = comparisons_by (cells_at os rs j) (count_before j) window

-- ---- the claim

-- 28 × 29 / 2: of at most 30 turns the first cannot switch, and the next s-th one finds at most s - 1 entries
abbrev pub most_comparisons : ℕ
most_comparisons = 406

abbrev pub ComparisonsBounded : Type 0
ComparisonsBounded = (os : ℕ → Object) (rs : ℕ → OsuDifficultyObject) (j : ℕ) (window : Float) → comparisons_at_place os rs j window ≤ most_comparisons
