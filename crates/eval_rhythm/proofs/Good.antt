-- What holds of the state and the island counts after m turns. Assumes nothing.
use Prim.Native.Nat.{ℕ, zero, suc, ◌+◌, ◌-◌, ◌≤◌}
use native.Mathlib.Omega.{arith}
use mathlib.Core.Path.{◌≡◌, refl, ◌∙◌}
use mathlib.Core.Bool.{Bool, true, false, cond}
use mathlib.Core.List.{List, [], ◌∷◌}
use lib.Dec.{ltb}
use lib.ListN.{get_or, set, length, replicate, length-set}
use lib.IntN.{ℤ, pos, negsuc, nat_abs, ◌+ℤ◌}
use lib.Signed.{non_neg}
use lib.Ieee as Ieee
use lib.Ieee.{Float, lt}
use Rattle.num_floats.specs.Numbers.{◌⊕◌, ◌⊖◌}
use Rattle.num_floats.specs.Compare.{abs_of}
use Rattle.eval_rhythm.specs.Constants.{min_delta_time, largest, six_tenths}
use Rattle.eval_rhythm.specs.declared.island.RhythmIsland.{RhythmIsland}
use Rattle.eval_rhythm.specs.declared.island.IslandCount.{IslandCount}
use Rattle.eval_rhythm.specs.declared.step.Deltas.{Deltas}
use Rattle.eval_rhythm.specs.declared.step.Cell.{Cell}
use Rattle.eval_rhythm.specs.Island.{IslandOk, max_z, eq_i, new_island, new_with_delta, settled_of, add_delta, same_of}
use Rattle.eval_rhythm.specs.Counts.{place_of, bumped_of, entry_of, CountOk, no_count}
use Rattle.eval_rhythm.specs.Step.{Walk, scaled_of, effective_of, progressed_of, began_of, switched_of, fresh_state, fresh_walk, switch_step, step_by, deltas_of, step_of}
use Rattle.eval_rhythm.proofs.Signed.{no}

-- what holds of the array after m turns
pub record CountsOk (m : ℕ) (es : List IslandCount) : Type 0 where
  pub wide : length es ≡ 32
  pub at : (p : ℕ) → CountOk m (get_or es p no_count)

-- what holds after m turns, the first of which begins an island at most
pub record Good (m : ℕ) (w : Walk) : Type 0 where
  pub island_ok : IslandOk m w.state.island
  pub prev_ok : IslandOk m w.state.prev_island
  pub counts_ok_lem : CountsOk m w.counts
  pub begun : w.state.first_delta_switch ≡ true → 1 ≤ m
  pub few : w.state.n ≤ m - 1

ok_mono : (m k : ℕ) (s : RhythmIsland) → m ≤ k → IslandOk m s → IslandOk k s
ok_mono m k s h o = record { delta_pos = o.delta_pos; count_pos = o.count_pos; count-le = omega (arith, o.count-le) }

max_pos : (d : ℤ) → non_neg (max_z d min_delta_time) ≡ true
max_pos (pos a) = go (ltb a 25)
  where
    go : (b : Bool) → non_neg (cond b (pos 25) (pos a)) ≡ true
    go true = refl
    go false = refl
max_pos (negsuc a) = refl

ok_new : (m : ℕ) (eps : Float) → IslandOk m (new_island eps)
unfolding new_island
ok_new m eps = record { delta_pos = refl; count_pos = refl; count-le = omega arith }

ok_with : (m : ℕ) (d : ℤ) (eps : Float) → IslandOk (suc m) (new_with_delta d eps)
unfolding new_with_delta
ok_with m d eps = record { delta_pos = max_pos d; count_pos = refl; count-le = omega arith }

settled_pos : (kept d : ℤ) → non_neg kept ≡ true → non_neg (settled_of kept d) ≡ true
unfolding settled_of
settled_pos kept d h = go (eq_i kept largest)
  where
    go : (b : Bool) → non_neg (cond b (max_z d min_delta_time) kept) ≡ true
    go true = max_pos d
    go false = h

inc_pos : (z : ℤ) → non_neg z ≡ true → non_neg (z +ℤ pos 1) ≡ true
inc_pos (pos n) h = refl
inc_pos (negsuc n) h = no h

inc_le : (z : ℤ) (m : ℕ) → non_neg z ≡ true → nat_abs z ≤ m → nat_abs (z +ℤ pos 1) ≤ suc m
inc_le (pos n) m h l = omega arith
inc_le (negsuc n) m h l = no h

ok_add : (m : ℕ) (s : RhythmIsland) (d : ℤ) → IslandOk m s → IslandOk (suc m) (add_delta s d)
unfolding add_delta
ok_add m s d o = record {
  delta_pos = settled_pos s.delta d o.delta_pos;
  count_pos = inc_pos s.delta_count o.count_pos;
  count-le = inc_le s.delta_count m o.count_pos o.count-le;
}

count_mono : (m k : ℕ) (e : IslandCount) → m ≤ k → CountOk m e → CountOk k e
count_mono m k e h o = record { island_ok = ok_mono m k e.island h o.island_ok; count-le = omega (arith, o.count-le) }

counts_mono : (m k : ℕ) (es : List IslandCount) → m ≤ k → CountsOk m es → CountsOk k es
counts_mono m k es h o = record { wide = o.wide; at = λ p. count_mono m k (get_or es p no_count) h (o.at p) }

-- what holds of each element holds of each after a store of one of which it holds
set_each : (P : IslandCount → Type 0) (cs : List IslandCount) (i : ℕ) (x : IslandCount) → P x
    → ((p : ℕ) → P (get_or cs p no_count)) → (p : ℕ) → P (get_or (set cs i x) p no_count)
set_each P [] i x h f p = f p
set_each P (y ∷ cs) zero x h f zero = h
set_each P (y ∷ cs) zero x h f (suc p) = f (suc p)
set_each P (y ∷ cs) (suc i) x h f zero = f zero
set_each P (y ∷ cs) (suc i) x h f (suc p) = set_each P cs i x h (λ q. f (suc q)) p

replicate_each : (P : IslandCount → Type 0) (k : ℕ) (x : IslandCount) → P x → P no_count → (p : ℕ) → P (get_or (replicate k x) p no_count)
replicate_each P zero x h d p = d
replicate_each P (suc k) x h d zero = h
replicate_each P (suc k) x h d (suc p) = replicate_each P k x h d p

bumped_ok : (m : ℕ) (e : IslandCount) (b : Bool) → CountOk m e → CountOk (suc m) (bumped_of e b)
unfolding bumped_of
bumped_ok m e true o = record { island_ok = ok_mono m (suc m) e.island (omega arith) o.island_ok; count-le = omega (arith, o.count-le) }
bumped_ok m e false o = count_mono m (suc m) e (omega arith) o

entry_ok : (m : ℕ) (es : List IslandCount) (n at : ℕ) (s prev : RhythmIsland) → IslandOk m s → CountsOk m es → CountOk (suc m) (entry_of es n at s prev)
unfolding entry_of
entry_ok m es n at s prev o c = go (ltb at n)
  where
    go : (b : Bool) → CountOk (suc m) (cond b (bumped_of (get_or es at no_count) (same_of prev s)) (record { island = s; count = 1 }))
    go true = bumped_ok m (get_or es at no_count) (same_of prev s) (c.at at)
    go false = record { island_ok = ok_mono m (suc m) s (omega arith) o; count-le = omega arith }

counts_set : (m : ℕ) (es : List IslandCount) (i : ℕ) (e : IslandCount) → CountOk (suc m) e → CountsOk m es → CountsOk (suc m) (set es i e)
counts_set m es i e o c = record {
  wide = length-set es i e ∙ c.wide;
  at = set_each (CountOk (suc m)) es i e o (counts_mono m (suc m) es (omega arith) c).at;
}

pub good_mono : (m k : ℕ) (w : Walk) → m ≤ k → Good m w → Good k w
good_mono m k w h g = record {
  island_ok = ok_mono m k w.state.island h g.island_ok;
  prev_ok = ok_mono m k w.state.prev_island h g.prev_ok;
  counts_ok_lem = counts_mono m k w.counts h g.counts_ok_lem;
  begun = λ on. omega (arith, g.begun on);
  few = omega (arith, g.few);
}

pub good_fresh : (eps : Float) → Good 0 (fresh_walk eps)
unfolding fresh_walk fresh_state new_island
good_fresh eps = record {
  island_ok = ok_new 0 eps;
  prev_ok = ok_new 0 eps;
  counts_ok_lem = record {
    wide = refl;
    at = replicate_each (CountOk 0) 32 (record { island = new_island eps; count = 0 })
        (record { island_ok = ok_new 0 eps; count-le = omega arith })
        (record { island_ok = record { delta_pos = refl; count_pos = refl; count-le = omega arith }; count-le = omega arith });
  };
  begun = λ on. no on;
  few = omega arith;
}

module _ (m : ℕ) (eps : Float) (w : Walk) (g : Good m w) where
  good_progressed : (d : ℤ) → Good (suc m) (record { state = progressed_of w.state d; counts = w.counts })
  unfolding progressed_of add_delta
  good_progressed d = record {
    island_ok = ok_add m w.state.island d g.island_ok;
    prev_ok = ok_mono m (suc m) w.state.prev_island (omega arith) g.prev_ok;
    counts_ok_lem = counts_mono m (suc m) w.counts (omega arith) g.counts_ok_lem;
    begun = λ on. omega arith;
    few = omega (arith, g.few);
  }

  good_began : (ratio : Float) (d : ℤ) → Good (suc m) (record { state = began_of w.state ratio d eps; counts = w.counts })
  unfolding began_of new_with_delta
  good_began ratio d = record {
    island_ok = ok_with m d eps;
    prev_ok = ok_mono m (suc m) w.state.prev_island (omega arith) g.prev_ok;
    counts_ok_lem = counts_mono m (suc m) w.counts (omega arith) g.counts_ok_lem;
    begun = λ on. omega arith;
    few = omega (arith, g.few);
  }

  count_few : 1 ≤ m → (b : Bool) → cond b w.state.n (w.state.n + 1) ≤ suc m - 1
  count_few h true = omega (arith, g.few)
  count_few h false = omega (arith, g.few)

  good_switch : w.state.first_delta_switch ≡ true → (ratio : Float) (d : Deltas) (curr prev : Cell) (decay window : Float) → Good (suc m) (switch_step w ratio d curr prev decay window eps)
  unfolding switch_step switched_of new_with_delta
  good_switch on ratio d curr prev decay window =
      let at : ℕ = place_of w.counts w.state.n w.state.island in
      record {
        island_ok = ok_with m (Ieee.to_signed 31 d.curr) eps;
        prev_ok = ok_mono m (suc m) w.state.island (omega arith) g.island_ok;
        counts_ok_lem = counts_set m w.counts at _
            (entry_ok m w.counts w.state.n at w.state.island w.state.prev_island g.island_ok g.counts_ok_lem) g.counts_ok_lem;
        begun = λ still. omega arith;
        few = count_few (g.begun on) (ltb at w.state.n);
      }

  by : (b d e : Bool) (x y z : Walk) → Good (suc m) x → (b ≡ true → Good (suc m) y) → Good (suc m) z
      → Good (suc m) (cond b (cond d x y) (cond e z w))
  by true true e x y z p q r = p
  by true false e x y z p q r = q refl
  by false d true x y z p q r = r
  by false d false x y z p q r = good_mono m (suc m) w (omega arith) g

  good_by : (d : Deltas) (curr prev : Cell) (decay window : Float) → Good (suc m) (step_by w d curr prev decay window eps)
  unfolding step_by
  good_by d curr prev decay window =
      by w.state.first_delta_switch (lt (abs_of (d.prev ⊖ d.curr)) eps) (lt (d.curr ⊕ eps) d.prev) _ _ _
      (good_progressed (Ieee.to_signed 31 d.curr))
      (λ on. good_switch on (effective_of d.prev d.curr eps) d curr prev decay window)
      (good_began (scaled_of (scaled_of (effective_of d.prev d.curr eps) curr.slider six_tenths) prev.slider six_tenths) (Ieee.to_signed 31 d.curr))

  pub good_step : (curr prev last : Cell) (decay window : Float) → Good (suc m) (step_of w curr prev last decay window eps)
  unfolding step_of
  good_step curr prev last decay window = good_by (deltas_of curr prev last) curr prev decay window
