-- The sums of `weighted_sum` and `sum` on lists. Assumes nothing.
use Prim.Native.Nat.{ℕ, ◌≤◌, ◌<◌, ◌+◌}
use native.Mathlib.Numerals.{add-one}
use mathlib.Core.Path.{◌≡◌, refl}
use mathlib.Core.List.{List, [], ◌∷◌}
use lib.ListN.{length, drop, get_or, drop_of_length-le}
use lib.Seq.{drop-cons}
use Rattle.std.specs.List.{fold}
use lib.Ieee.{Float, nan}
use Rattle.num_floats.specs.Numbers.{◌⊕◌, ◌⊗◌}
use Rattle.skills.specs.Value.{decay_weight, weighted, sum_from}

module _ (a : List Float) (i : ℕ) where
  pub weigh_next : (sum weight : Float) → i < length a
      → weighted (sum ⊕ get_or a i nan ⊗ weight) (weight ⊗ decay_weight) (drop (i + 1) a) ≡ weighted sum weight (drop i a)
  unfolding weighted
  weigh_next sum weight h = rw (add-one i, drop-cons a i nan h)

  pub weigh_done : (sum weight : Float) → length a ≤ i → weighted sum weight (drop i a) ≡ sum
  unfolding weighted
  weigh_done sum weight h = let e : drop i a ≡ [] = drop_of_length-le a h in rw e

-- a fold by `+` adds in list order
pub sum_is : (sum : Float) (xs : List Float) → fold ◌⊕◌ sum xs ≡ sum_from sum xs
unfolding sum_from
sum_is sum [] = refl
sum_is sum (x ∷ xs) = sum_is (sum ⊕ x) xs
