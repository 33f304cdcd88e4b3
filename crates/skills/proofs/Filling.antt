-- Filling a list from the front, at any element type (`borrow.Author.Fill` has it at numbers). Assumes nothing.
use Prim.Native.Nat.{ℕ, zero, suc, ◌≤◌, ◌<◌, ◌+◌}
use native.Mathlib.Nat.{not-suc-le-zero, le_of_suc-le-suc}
use native.Mathlib.Numerals.{add-one}
use native.Mathlib.Omega.{arith}
use mathlib.Core.Path.{◌≡◌, refl, ap}
use mathlib.Core.List.{List, [], ◌∷◌, ◌++◌, append-nil}
use lib.ListN.{length, set, drop, replicate, drop_of_length-le}

module _ {X : Type 0} where
  fill_suc : (n : ℕ) (v : X) (d : List X) → n < length d → set (replicate n v ++ drop n d) n v ≡ replicate (suc n) v ++ drop (suc n) d
  fill_suc n v [] l = absurd (not-suc-le-zero l)
  fill_suc zero v (x ∷ d) l = refl
  fill_suc (suc n) v (x ∷ d) l = ap (λ (t : List X). v ∷ t) (fill_suc n v d (le_of_suc-le-suc l))

  pub fill_more : (n : ℕ) (v : X) (d : List X) → n < length d → set (replicate n v ++ drop n d) n v ≡ replicate (n + 1) v ++ drop (n + 1) d
  fill_more n v d l = rw add-one (fill_suc n v d l)

  pub fill-all : (n : ℕ) (v : X) (d : List X) → n ≡ length d → replicate n v ++ drop n d ≡ replicate (length d) v
  fill-all n v d e =
      let h : length d ≤ n = omega arith in
      let z : drop n d ≡ [] = drop_of_length-le d h in
      rw (z, append-nil, e)
