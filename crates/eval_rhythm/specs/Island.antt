-- RhythmIsland of evaluators/rhythm.rs.
use Rattle.std.specs.Prelude.{ℕ, ◌≤◌, ◌≡◌, Bool, true, false, cond, eqb, ℤ, pos, nat_abs, ◌+ℤ◌, ◌-ℤ◌, Float}
use Rattle.std.specs.Int.Signed.{lt_z, rem_z, non_neg}
use Rattle.std.specs.Float.Ieee as Ieee
use Rattle.std.specs.Float.{binary64}
use Rattle.std.specs.Int.{w32}
use Rattle.std.proofs.Common.{of_z}
use Rattle.num_floats.specs.Compare.{abs_of}
use Rattle.num_util.specs.FloatExt.{epsilon}
use Rattle.eval_rhythm.specs.Constants.{min_delta_time, largest}
use Rattle.eval_rhythm.specs.declared.island.RhythmIsland.{RhythmIsland}

-- two i32 are equal: the test that the machine makes, of their bits
abbrev pub eq_i : ℤ → ℤ → Bool
eq_i a b = eqb (of_z w32 a) (of_z w32 b)

abbrev pub max_z : ℤ → ℤ → ℤ
max_z a b = cond (lt_z a b) b a

-- the distance of two numbers
abbrev pub dist_z : ℤ → ℤ → ℤ
dist_z a b = cond (lt_z a b) (b -ℤ a) (a -ℤ b)

unfoldable pub new_island : Float → RhythmIsland
new_island eps = record { delta_difference_eps = eps; delta = pos 0; delta_count = pos 0 }

unfoldable pub new_with_delta : ℤ → Float → RhythmIsland
new_with_delta delta eps = record { delta_difference_eps = eps; delta = max_z delta min_delta_time; delta_count = pos 1 }

unfoldable pub settled_of : ℤ → ℤ → ℤ
settled_of kept delta = cond (eq_i kept largest) (max_z delta min_delta_time) kept

unfoldable pub add_delta : RhythmIsland → ℤ → RhythmIsland
add_delta s delta = record {
  delta_difference_eps = s.delta_difference_eps;
  delta = settled_of s.delta delta;
  delta_count = s.delta_count +ℤ pos 1;
}

unfoldable pub similar_of : RhythmIsland → RhythmIsland → Bool
similar_of a b = eq_i (rem_z a.delta_count (pos 2)) (rem_z b.delta_count (pos 2))

unfoldable pub default_of : RhythmIsland → Bool
default_of s = cond (Ieee.lt (abs_of s.delta_difference_eps) epsilon)
    (cond (eq_i s.delta largest) (eq_i s.delta_count (pos 0)) false) false

unfoldable pub same_of : RhythmIsland → RhythmIsland → Bool
same_of a b = cond (Ieee.lt (Ieee.of_int binary64 (dist_z a.delta b.delta)) a.delta_difference_eps) (eq_i a.delta_count b.delta_count) false

-- an island whose numbers are not below zero, and whose count is at most m
pub record IslandOk (m : ℕ) (s : RhythmIsland) : Type 0 where
  pub delta_pos : non_neg s.delta ≡ true
  pub count_pos : non_neg s.delta_count ≡ true
  pub count-le : nat_abs s.delta_count ≤ m
