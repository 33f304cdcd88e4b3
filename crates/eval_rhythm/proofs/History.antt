-- The history of the rhythm evaluator: one place of the search for its start, and one turn of its run. Assumes nothing.
use Prim.Native.Nat.{ℕ, zero, suc, ◌+◌, ◌-◌, ◌≤◌, ◌<◌}
use native.Mathlib.Omega.{arith}
use native.Mathlib.Nat.{sub-zero}
use borrow.Author.Tests.{lt-ltb, le-ltb, ltb-true, ltb-false}
use mathlib.Core.Path.{◌≡◌, refl, sym, ap, ◌∙◌}
use mathlib.Core.Bool.{Bool, true, false, cond, not}
use mathlib.Core.List.{List}
use lib.Dec.{ltb}
use lib.ListN.{set, replicate}
use lib.Ieee as Ieee
use lib.Ieee.{Float, lt}
use Rattle.num_floats.specs.Numbers.{◌⊕◌, ◌⊖◌, zero64}
use Rattle.num_floats.specs.Compare.{abs_of}
use Rattle.osu_object.specs.Osu.{Object}
use Rattle.osu_difficulty_object.specs.Reading.{tapness_of, window_of}
use Rattle.osu_difficulty_object.specs.declared.OsuDifficultyObject.{OsuDifficultyObject}
use Rattle.eval_rhythm.specs.Constants.{history_time_max}
use Rattle.eval_rhythm.specs.declared.island.IslandCount.{IslandCount}
use Rattle.eval_rhythm.specs.declared.step.RhythmState.{RhythmState}
use Rattle.eval_rhythm.specs.declared.step.Deltas.{Deltas}
use Rattle.eval_rhythm.specs.declared.step.Cell.{Cell}
use Rattle.eval_rhythm.specs.Counts.{unmet_of, place_of, entry_of}
use Rattle.eval_rhythm.specs.Step.{Walk, walk_of, ratio_of, last_ratio, decay_of, switched_of, fresh_state, fresh_walk, switch_step, effective_of, deltas_of, switches_of, step_by, step_of}
use Rattle.eval_rhythm.specs.Rhythm.{Cells, run_of, near_of, start_from, cell_at, cells_at}
use Rattle.eval_rhythm.specs.Comparisons.{compared_at, compared_by, compared_in, turn_at, comparisons_from}
use Rattle.eval_rhythm.proofs.Signed.{no}

-- ---- the search for the start, and the run

module _ (v : Cells) (hist r : ℕ) where
  left : r < hist → hist - r ≡ suc (hist - (r + 1))
  left h = omega arith

  pub start_more : r < hist → near_of v hist r ≡ true → start_from v hist (hist - r) r ≡ start_from v hist (hist - (r + 1)) (r + 1)
  unfolding start_from
  start_more h e = rw (left h, e)

  pub start_stop : r < hist → near_of v hist r ≡ false → start_from v hist (hist - r) r ≡ r
  unfolding start_from
  start_stop h e = rw (left h, e)

  start_end : hist ≤ r → start_from v hist (hist - r) r ≡ r
  unfolding start_from
  start_end h = let e : hist - r ≡ 0 = omega arith in rw e

run_one : (v : Cells) (hist : ℕ) (window eps : Float) (k : ℕ) (s : Walk) → 0 < k
    → run_of v hist window eps k s
    ≡ run_of v hist window eps (k - 1)
    (step_of s (v k) (v (k + 1)) (v (k + 2)) (decay_of (v 0).start_time (v k).start_time hist k) window eps)
unfolding run_of
run_one v hist window eps zero s h = absurd (omega arith)
run_one v hist window eps (suc k) s h = let e : suc k - 1 ≡ k = omega arith in rw e

count_one : (v : Cells) (hist : ℕ) (window eps : Float) (k : ℕ) (s : Walk) → 0 < k
    → comparisons_from v hist window eps k s
    ≡ compared_in s (v k) (v (k + 1)) (v (k + 2)) eps + comparisons_from v hist window eps (k - 1) (turn_at v hist window eps k s)
unfolding comparisons_from
count_one v hist window eps zero s h = absurd (omega arith)
count_one v hist window eps (suc k) s h = let e : suc k - 1 ≡ k = omega arith in rw e

-- ---- from what the calls of a turn ensure

pub fresh_walk_lem : (eps : Float) (s : RhythmState) (unmet : IslandCount) → s ≡ fresh_state eps → unmet ≡ unmet_of eps
    → walk_of s (replicate 32 unmet) ≡ fresh_walk eps
unfolding fresh_walk
fresh_walk_lem eps s unmet e i = rw (e, i)

pub switch_is : (w : Walk) (ratio : Float) (d : Deltas) (curr prev : Cell) (decay window eps : Float)
    (at : ℕ) (e : IslandCount) (es : List IslandCount) (r tapped tap last : Float) (next : RhythmState)
    → at ≡ place_of w.counts w.state.n w.state.island
    → e ≡ entry_of w.counts w.state.n at w.state.island w.state.prev_island
    → es ≡ set w.counts at e
    → r ≡ ratio_of w.state ratio d curr prev eps
    → tapped ≡ window_of prev.spinner window
    → tap ≡ tapness_of prev.delta_time curr.delta_time tapped
    → last ≡ last_ratio r (ltb at w.state.n) w.state.island.delta e.count tap
    → next ≡ switched_of w.state last (ltb at w.state.n) (not (lt (d.prev ⊕ eps) d.curr)) decay (Ieee.to_signed 31 d.curr) eps
    → record { state = next; counts = es } ≡ switch_step w ratio d curr prev decay window eps
unfolding switch_step
switch_is w ratio d curr prev decay window eps at e es r tapped tap last next h1 h2 h3 h4 h5 h6 h7 h8 = rw (h8, h7, h6, h5, h4, h3, h2, h1)

-- a turn that switches, and one that does not
switch_on : (b c : Bool) → cond b (not c) false ≡ true → (b ≡ true) × (c ≡ false)
switch_on true false h = (refl, refl)
switch_on true true h = no h
switch_on false c h = no h

none_compared : (b c : Bool) (x : ℕ) → cond b (not c) false ≡ false → cond b (cond c 0 x) 0 ≡ 0
none_compared true true x h = refl
none_compared true false x h = no (sym h)
none_compared false c x h = refl

stays_near : (b c : Bool) → cond b (not c) false ≡ false → b ≡ true → c ≡ true
stays_near true true h t = refl
stays_near true false h t = no (sym h)
stays_near false c h t = no t

pub near_when : (s : RhythmState) (d : Deltas) (eps : Float) → switches_of s d eps ≡ false → s.first_delta_switch ≡ true
    → lt (abs_of (d.prev ⊖ d.curr)) eps ≡ true
unfolding switches_of
near_when s d eps h t = stays_near s.first_delta_switch (lt (abs_of (d.prev ⊖ d.curr)) eps) h t

module _ (w : Walk) (curr prev : Cell) (decay window eps : Float) (d : Deltas) where
  by_switch : switches_of w.state d eps ≡ true
      → (step_by w d curr prev decay window eps ≡ switch_step w (effective_of d.prev d.curr eps) d curr prev decay window eps)
      × (compared_by w d eps ≡ compared_at w)
  unfolding step_by compared_by switches_of
  by_switch t = let p = switch_on w.state.first_delta_switch (lt (abs_of (d.prev ⊖ d.curr)) eps) t in (rw (p.0, p.1), rw (p.0, p.1))

  by_other : switches_of w.state d eps ≡ false → compared_by w d eps ≡ 0
  unfolding compared_by switches_of
  by_other t = none_compared w.state.first_delta_switch (lt (abs_of (d.prev ⊖ d.curr)) eps) (compared_at w) t

module _ (w next : Walk) (curr prev last : Cell) (decay window eps : Float) (d : Deltas) (b : Bool) (hd : d ≡ deltas_of curr prev last)
    (hb : b ≡ switches_of w.state d eps) where
  pub turn_switch : (more : ℕ) → b ≡ true → next ≡ switch_step w (effective_of d.prev d.curr eps) d curr prev decay window eps → more ≡ compared_at w
      → (next ≡ step_of w curr prev last decay window eps) × (more ≡ compared_in w curr prev last eps)
  unfolding step_of compared_in
  turn_switch more t hn hm =
      let s = by_switch w curr prev decay window eps d (sym hb ∙ t) in (
        hn ∙ sym s.0 ∙ ap (λ (x : Deltas). step_by w x curr prev decay window eps) hd,
        hm ∙ sym s.1 ∙ ap (λ (x : Deltas). compared_by w x eps) hd,
      )

  pub turn_other : b ≡ false → next ≡ step_by w d curr prev decay window eps
      → (next ≡ step_of w curr prev last decay window eps) × (0 ≡ compared_in w curr prev last eps)
  unfolding step_of compared_in
  turn_other t hn = (
    hn ∙ ap (λ (x : Deltas). step_by w x curr prev decay window eps) hd,
    sym (by_other w curr prev decay window eps d (sym hb ∙ t)) ∙ ap (λ (x : Deltas). compared_by w x eps) hd,
  )

module _ (v : Cells) (hist : ℕ) where
  -- the walk from the next place on; and the comparisons so far, those of the turn and those to come
  pub run_turn : (window eps : Float) (k : ℕ) (s next : Walk) (here curr prev last : Cell) (d : Float) (so_far more : ℕ) → 0 < k
      → here ≡ v 0 → curr ≡ v k → prev ≡ v (k + 1) → last ≡ v (k + 2)
      → d ≡ decay_of here.start_time curr.start_time hist k
      → next ≡ step_of s curr prev last d window eps
      → more ≡ compared_in s curr prev last eps
      → (run_of v hist window eps (k - 1) next ≡ run_of v hist window eps k s)
      × (so_far + more + comparisons_from v hist window eps (k - 1) next ≡ so_far + comparisons_from v hist window eps k s)
  run_turn window eps k s next here curr prev last d so_far more h hh hc hp hl hd hn hm =
      let e = count_one v hist window eps k s h in (
        rw (hn, hd, hh, hc, hp, hl) (sym (run_one v hist window eps k s h)),
        rw (hm, hn, hd, hh, hc, hp, hl) (omega (arith, e)),
      )

  pub near_is : (r : ℕ) (here prev : Cell) (b : Bool) → r + 2 < hist → here ≡ v 0 → prev ≡ v (r + 1)
      → lt (here.start_time ⊖ prev.start_time) history_time_max ≡ b → near_of v hist r ≡ b
  near_is r here prev b h hh hp e = rw (lt-ltb (r + 2) hist h, ← hh, ← hp) e

  pub start_done : (r : ℕ) → hist ≤ r + 2 → start_from v hist (hist - r) r ≡ r
  start_done r h = go (ltb r hist) refl
    where
      go : (b : Bool) → ltb r hist ≡ b → start_from v hist (hist - r) r ≡ r
      go true e = start_stop v hist r (ltb-true r hist e) (rw (le-ltb (r + 2) hist h))
      go false e = start_end v hist r (ltb-false r hist e)

-- the cell of one number of places back is that of an equal one
pub cell_back : (os : ℕ → Object) (rs : ℕ → OsuDifficultyObject) (j k i : ℕ) (c : Cell) → k ≡ i → c ≡ cells_at os rs j k → c ≡ cells_at os rs j i
cell_back os rs j k i c p e = e ∙ ap (cells_at os rs j) p

-- the view's first cell is the place's own
pub cell_here : (os : ℕ → Object) (rs : ℕ → OsuDifficultyObject) (j : ℕ) (c : Cell) → c ≡ cell_at os rs j → c ≡ cells_at os rs j 0
cell_here os rs j c e = rw sub-zero e

pub run_end : (v : Cells) (hist : ℕ) (window eps : Float) (k : ℕ) (s : Walk) → k ≤ 0 → run_of v hist window eps k s ≡ s
unfolding run_of
run_end v hist window eps zero s h = refl
run_end v hist window eps (suc k) s h = absurd (omega arith)

pub count_end : (v : Cells) (hist : ℕ) (window eps : Float) (k : ℕ) (s : Walk) (so_far total : ℕ) → k ≤ 0
    → so_far + comparisons_from v hist window eps k s ≡ total → so_far ≡ total
unfolding comparisons_from
count_end v hist window eps zero s so_far total h e = omega (arith, e)
count_end v hist window eps (suc k) s so_far total h e = absurd (omega arith)

-- without a turn there is no sum and no comparison
pub run_none : (v : Cells) (hist : ℕ) (window eps : Float) (from : ℕ) → from ≡ 0 → zero64 ≡ (run_of v hist window eps from (fresh_walk eps)).state.sum
unfolding run_of fresh_walk fresh_state
run_none v hist window eps from e = rw e

pub count_none : (v : Cells) (hist : ℕ) (window eps : Float) (from : ℕ) → from ≡ 0 → 0 ≡ comparisons_from v hist window eps from (fresh_walk eps)
unfolding comparisons_from
count_none v hist window eps from e = rw e
