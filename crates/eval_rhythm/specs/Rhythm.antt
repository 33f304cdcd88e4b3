-- evaluators/rhythm.rs: the history, and the value.
use Rattle.std.specs.Prelude.{ℕ, zero, suc, ◌+◌, ◌-◌, min, Bool, false, cond, not, ltb, Float}
use Rattle.std.specs.Float.Ieee as Ieee
use Rattle.std.specs.Float.{binary64}
use Rattle.num_floats.specs.Numbers.{◌⊕◌, ◌⊖◌, ◌⊗◌, ◌⊘◌, zero64, one64, two64}
use Rattle.num_roots.specs.Root.{root_of}
use Rattle.osu_object.specs.Osu.{Object}
use Rattle.osu_difficulty_object.specs.Reading.{tapness_of, window_of}
use Rattle.osu_difficulty_object.specs.declared.OsuDifficultyObject.{OsuDifficultyObject}
use Rattle.osu_records.specs.Sight.{View, sight_of, view_of}
use Rattle.osu_records.specs.declared.Sight.{Sight}
use Rattle.eval_rhythm.specs.Constants.{history_time_max, history_objects_max, rhythm_overall_multiplier, three_tenths, four}
use Rattle.eval_rhythm.specs.Step.{Walk, fresh_walk, step_of, decay_of}
use Rattle.eval_rhythm.specs.declared.step.Cell.{Cell}

-- what the evaluator reads of the record k places back, and at 0 of the record itself
abbrev pub Cells : Type 0
Cells = ℕ → Cell

-- the run from the furthest record back, at k, to the record before this one
unfoldable pub run_of : Cells → ℕ → Float → Float → ℕ → Walk → Walk
run_of v hist window eps zero w = w
run_of v hist window eps (suc k) w =
    run_of v hist window eps k
    (step_of w (v (suc k)) (v (suc k + 1)) (v (suc k + 2)) (decay_of (v 0).start_time (v (suc k)).start_time hist (suc k)) window eps)

-- record r + 1 back is within the history
abbrev pub near_of : Cells → ℕ → ℕ → Bool
near_of v hist r = cond (ltb (r + 2) hist) (Ieee.lt ((v 0).start_time ⊖ (v (r + 1)).start_time) history_time_max) false

-- how far back the history reaches, from r on, by at most `left` more
unfoldable pub start_from : Cells → ℕ → ℕ → ℕ → ℕ
start_from v hist zero r = r
start_from v hist (suc left) r = cond (near_of v hist r) (start_from v hist left (r + 1)) r

unfoldable pub start_of : Cells → ℕ → ℕ
start_of v hist = start_from v hist hist 0

unfoldable pub value_of : Float → Float → Float
value_of sum tap = root_of binary64 (four ⊕ sum ⊗ rhythm_overall_multiplier) ⊘ two64 ⊗ (one64 ⊖ tap)

-- with the number of records before that count, and the next record's delta time where there is one
unfoldable pub rhythm_by : Cells → ℕ → Bool → Float → Float → Float
rhythm_by v hist hasNext next window =
    let eps = window ⊗ three_tenths in
    let w = run_of v hist window eps (start_of v hist) (fresh_walk eps) in
    cond (v 0).spinner zero64
    (value_of w.state.sum (cond (not hasNext) zero64 (tapness_of (v 0).delta_time next (window_of (v 0).spinner window))))

unfoldable pub cell_of : Sight → Cell
cell_of s = record { start_time = s.diff.start_time; delta_time = s.diff.delta_time; slider = s.base.slider; spinner = s.base.spinner }

-- `evaluate_diff_of`, where `before` records precede, of which `historical_note_count` count; and the next record where there is one
abbrev pub rhythm_of : View → ℕ → Bool → OsuDifficultyObject → Float → Float
rhythm_of v before hasNext next window = rhythm_by (λ k. cell_of (v k)) (min before history_objects_max) hasNext next.delta_time window

-- ---- at place j of objects and their records

abbrev pub cell_at : (ℕ → Object) → (ℕ → OsuDifficultyObject) → ℕ → Cell
cell_at os rs p = cell_of (sight_of (rs p) (os p))

abbrev pub cells_at : (ℕ → Object) → (ℕ → OsuDifficultyObject) → ℕ → Cells
cells_at os rs j = λ k. cell_of (view_of os rs j k)

-- `historical_note_count`: place j is `idx` j - 1
abbrev pub count_before : ℕ → ℕ
count_before j = min (j - 1) history_objects_max

-- where `next` reaches the records up to a last place
abbrev pub rhythm_at_place : (ℕ → Object) → (ℕ → OsuDifficultyObject) → ℕ → ℕ → Float → Float
rhythm_at_place os rs last j window = rhythm_of (view_of os rs j) (j - 1) (ltb j last) (rs (j + 1)) window
