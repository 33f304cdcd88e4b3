-- The loop of `reduce` on lists. Assumes nothing.
use Prim.Native.Nat.{ℕ, suc, ◌≤◌, ◌<◌, ◌+◌, min}
use native.Mathlib.Numerals.{add-one}
use native.Mathlib.Omega.{arith}
use mathlib.Core.Path.{◌≡◌, refl, sym, ap, ◌∙◌}
use mathlib.Core.List.{List, [], ◌∷◌, ◌++◌, append_assoc}
use lib.ListN.{length, take, drop, get_or, set, length-set, drop_of_length-le, take-append-drop}
use lib.Seq.{take-suc-set, drop-set-lt, drop-cons}
use lib.Ieee.{Float, nan}
use mathlib.Core.Bool.{Bool, true, false}
use lib.Dec.{ltb}
use borrow.Author.Tests.{lt-ltb, le-ltb, ltb-true, ltb-false}
use Rattle.num_floats.specs.Numbers.{◌⊗◌}
use Rattle.skills.specs.Value.{reduced, reduction}

-- from `count` on nothing changes
beyond : (count i : ℕ) (xs : List Float) → count ≤ i → reduced count i xs ≡ xs
unfolding reduced
beyond count i [] h = refl
beyond count i (x ∷ xs) h =
    let n : count ≤ suc i = omega arith in
    let r = beyond count (suc i) xs n in
    simp (le-ltb i count h, r)

pub record Reducing (a₀ : List Float) (count : ℕ) (a : List Float) (i : ℕ) : Type 0 where
  pub kept : length a ≡ length a₀
  pub lists : take i a ++ reduced count i (drop i a) ≡ reduced count 0 a₀

module _ {a₀ : List Float} {count : ℕ} {a : List Float} {i : ℕ} (m : Reducing a₀ count a i) where
  pub reduce_next : i < length a → i < count → (r : Float) → r ≡ reduction i count → Reducing a₀ count (set a i (get_or a i nan ⊗ r)) (i + 1)
  unfolding reduced
  reduce_next h k r e =
      let x = get_or a i nan ⊗ reduction i count in
      let p : i < suc i = omega arith in
      let l : take (i + 1) (set a i x) ++ reduced count (i + 1) (drop (i + 1) (set a i x)) ≡ take i a ++ reduced count i (drop i a) =
      simp add-one (rw (take-suc-set a i x h, drop-set-lt (suc i) a i x p, drop-cons a i nan h) (simp (append_assoc, lt-ltb i count k))) in
      rw e (record { kept = simp length-set m.kept; lists = l ∙ m.lists })

  reduce_stop : count ≤ i → a ≡ reduced count 0 a₀
  reduce_stop h = sym (take-append-drop i a) ∙ ap (λ (l : List Float). take i a ++ l) (sym (beyond count i (drop i a) h)) ∙ m.lists

  reduce_done : length a ≤ i → a ≡ reduced count 0 a₀
  unfolding reduced
  reduce_done h =
      let e : drop i a ≡ [] = drop_of_length-le a h in
      sym (take-append-drop i a) ∙ (rw e) ∙ ap (λ (l : List Float). take i a ++ reduced count i l) (sym e) ∙ m.lists

  pub reduce_end : min count (length a₀) ≤ i → a ≡ reduced count 0 a₀
  reduce_end h = go (ltb i count) refl
    where
      go : (b : Bool) → ltb i count ≡ b → a ≡ reduced count 0 a₀
      go true e = let k = ltb-true i count e in reduce_done (omega (arith, m.kept))
      go false e = reduce_stop (ltb-false i count e)
