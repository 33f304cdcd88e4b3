-- A turn of the loop of evaluators/rhythm.rs, in its order of operations.
use Rattle.std.specs.Prelude.{ℕ, ◌+◌, ◌-◌, Bool, true, false, cond, not, List, ltb, set, replicate, ℤ, pos, Float}
use Rattle.std.specs.Float.Ieee as Ieee
use Rattle.std.specs.Float.{binary64}
use Rattle.num_floats.specs.Numbers.{◌⊕◌, ◌⊖◌, ◌⊗◌, ◌⊘◌, zero64, half64, one64, two64, three64}
use Rattle.num_floats.specs.Compare.{max_of, min_of, clamp_of, abs_of}
use Rattle.num_roots.specs.Root.{root_of}
use Rattle.num_whole.specs.Whole.{trunc_of}
use Rattle.num_elementary.specs.Power.{power_of}
use Rattle.num_util.specs.Difficulty.{logistic, smoothstep_bell_curve}
use Rattle.osu_difficulty_object.specs.Reading.{tapness_of, window_of}
use Rattle.eval_rhythm.specs.Constants.{history_time_max, rhythm_ratio_multiplier, three_tenths, eighth, six_tenths, three_quarters, least_delta, eight, repeat_midpoint, repeat_slope, repeat_most}
use Rattle.eval_rhythm.specs.Island.{eq_i, new_island, new_with_delta, add_delta, similar_of, same_of}
use Rattle.eval_rhythm.specs.Counts.{unmet_of, place_of, entry_of}
use Rattle.eval_rhythm.specs.declared.island.IslandCount.{IslandCount}
use Rattle.eval_rhythm.specs.declared.step.RhythmState.{RhythmState}
use Rattle.eval_rhythm.specs.declared.step.Cell.{Cell}
use Rattle.eval_rhythm.specs.declared.step.Deltas.{Deltas}

-- ---- ratios

-- x times k where a flag is set
unfoldable pub scaled_of : Float → Bool → Float → Float
scaled_of x b k = cond b (x ⊗ k) x

abbrev pub of_nat : ℕ → Float
of_nat n = Ieee.of_int binary64 (pos n)

-- `effective_ratio`, as it begins
unfoldable pub effective_of : Float → Float → Float → Float
effective_of prev curr eps =
    let diff = max_of prev curr ⊘ min_of prev curr in
    let ratio = one64 ⊕ rhythm_ratio_multiplier ⊗ min_of (smoothstep_bell_curve (diff ⊖ trunc_of binary64 diff) half64 half64) half64 in
    min_of (max_of (abs_of (prev ⊖ curr) ⊖ eps) zero64 ⊘ eps) one64 ⊗ ratio ⊗ clamp_of (two64 ⊖ diff ⊘ eight) zero64 one64

-- `curr_historical_decay` of the record k places back, of as many that count
unfoldable pub decay_of : Float → Float → ℕ → ℕ → Float
decay_of start other hist k =
    min_of (of_nat (hist - k) ⊘ of_nat hist) ((history_time_max ⊖ (start ⊖ other)) ⊘ history_time_max)

-- two increases of speed in a row
unfoldable pub faster_twice : Deltas → Float → Bool
faster_twice d eps = cond (Ieee.lt (d.prev ⊕ eps) d.last) (Ieee.lt (d.curr ⊕ eps) d.prev) false

-- by the flags of a switch
unfoldable pub switch_ratio : Float → Bool → Bool → Bool → Bool → Bool → Float
switch_ratio ratio currSlider prevSlider similar faster equal =
    scaled_of (scaled_of (scaled_of (scaled_of (scaled_of ratio currSlider eighth) prevSlider three_tenths) similar half64) faster eighth) equal half64

-- of an island that was counted so often
unfoldable pub factor_of : ℤ → ℕ → Float
factor_of delta count =
    min_of (three64 ⊘ of_nat count)
    (power_of (one64 ⊘ of_nat count) (logistic (Ieee.of_int binary64 delta) repeat_midpoint repeat_slope repeat_most))

-- the ratio after the counts and the doubletap penalty
unfoldable pub last_ratio : Float → Bool → ℤ → ℕ → Float → Float
last_ratio ratio repeated delta count tap = cond repeated (ratio ⊗ factor_of delta count) ratio ⊗ (one64 ⊖ tap ⊗ three_quarters)

-- ---- the state

-- the island is still progressing
unfoldable pub progressed_of : RhythmState → ℤ → RhythmState
progressed_of s delta = record {
  island = add_delta s.island delta;
  prev_island = s.prev_island;
  first_delta_switch = s.first_delta_switch;
  start_ratio = s.start_ratio;
  sum = s.sum;
  n = s.n;
}

-- speeding up: an island begins
unfoldable pub began_of : RhythmState → Float → ℤ → Float → RhythmState
began_of s ratio delta eps = record {
  island = new_with_delta delta eps;
  prev_island = s.prev_island;
  first_delta_switch = true;
  start_ratio = ratio;
  sum = s.sum;
  n = s.n;
}

-- a switch: the island ends, and another begins; the counts hold one entry more where it was not repeated
unfoldable pub switched_of : RhythmState → Float → Bool → Bool → Float → ℤ → Float → RhythmState
switched_of s ratio repeated on decay delta eps = record {
  island = new_with_delta delta eps;
  prev_island = s.island;
  first_delta_switch = on;
  start_ratio = ratio;
  sum = s.sum ⊕ root_of binary64 (ratio ⊗ s.start_ratio) ⊗ decay;
  n = cond repeated s.n (s.n + 1);
}

-- the ratio of a switch before the island counts
unfoldable pub ratio_of : RhythmState → Float → Deltas → Cell → Cell → Float → Float
ratio_of s ratio d curr prev eps =
    switch_ratio ratio curr.slider prev.slider (similar_of s.island s.prev_island) (faster_twice d eps)
    (eq_i s.prev_island.delta_count s.island.delta_count)

-- the delta changes while an island is counted
unfoldable pub switches_of : RhythmState → Deltas → Float → Bool
switches_of s d eps = cond s.first_delta_switch (not (Ieee.lt (abs_of (d.prev ⊖ d.curr)) eps)) false

-- the search for the island goes past place i, where an entry stands
unfoldable pub passes_of : RhythmState → ℕ → IslandCount → Bool
passes_of s i e = cond (ltb i s.n) (not (same_of e.island s.island)) false

-- ---- a turn

-- the state and the island counts
pub record Walk : Type 0 where
  pub state : RhythmState
  pub counts : List IslandCount

abbrev pub walk_of : RhythmState → List IslandCount → Walk
walk_of s es = record { state = s; counts = es }

unfoldable pub fresh_state : Float → RhythmState
fresh_state eps = record {
  island = new_island eps;
  prev_island = new_island eps;
  first_delta_switch = false;
  start_ratio = zero64;
  sum = zero64;
  n = 0;
}

unfoldable pub fresh_walk : Float → Walk
fresh_walk eps = record { state = fresh_state eps; counts = replicate 32 (unmet_of eps) }

unfoldable pub switch_step : Walk → Float → Deltas → Cell → Cell → Float → Float → Float → Walk
switch_step w ratio d curr prev decay window eps =
    let s = w.state in
    let at = place_of w.counts s.n s.island in
    let e = entry_of w.counts s.n at s.island s.prev_island in
    let r = ratio_of s ratio d curr prev eps in
    let tap = tapness_of prev.delta_time curr.delta_time (window_of prev.spinner window) in
    record {
      state =
          switched_of s (last_ratio r (ltb at s.n) s.island.delta e.count tap) (ltb at s.n) (not (Ieee.lt (d.prev ⊕ eps) d.curr)) decay
          (Ieee.to_signed 31 d.curr) eps;
      counts = set w.counts at e;
    }

-- the same counts with another state
abbrev pub kept : Walk → RhythmState → Walk
kept w s = record { state = s; counts = w.counts }

-- the ways of a turn
unfoldable pub step_by : Walk → Deltas → Cell → Cell → Float → Float → Float → Walk
step_by w d curr prev decay window eps =
    let s = w.state in
    let ratio = effective_of d.prev d.curr eps in
    cond s.first_delta_switch
    (cond (Ieee.lt (abs_of (d.prev ⊖ d.curr)) eps)
    (kept w (progressed_of s (Ieee.to_signed 31 d.curr)))
    (switch_step w ratio d curr prev decay window eps))
    (cond (Ieee.lt (d.curr ⊕ eps) d.prev)
    (kept w (began_of s (scaled_of (scaled_of ratio curr.slider six_tenths) prev.slider six_tenths) (Ieee.to_signed 31 d.curr) eps))
    w)

-- a delta time that can be divided by
abbrev pub at_least : Float → Float
at_least delta = max_of delta least_delta

abbrev pub deltas_of : Cell → Cell → Cell → Deltas
deltas_of curr prev last = record { curr = at_least curr.delta_time; prev = at_least prev.delta_time; last = at_least last.delta_time }

unfoldable pub step_of : Walk → Cell → Cell → Cell → Float → Float → Float → Walk
step_of w curr prev last decay window eps = step_by w (deltas_of curr prev last) curr prev decay window eps
