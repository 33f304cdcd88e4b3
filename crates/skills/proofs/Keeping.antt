-- The loop of `keep_positive` on lists. Assumes nothing.
use Prim.Native.Nat.{ℕ, suc, ◌≤◌, ◌<◌, ◌+◌}
use native.Mathlib.Numerals.{add-one}
use native.Mathlib.Omega.{arith}
use mathlib.Core.Path.{◌≡◌, refl, sym, ap, ◌∙◌}
use mathlib.Core.Bool.{Bool, true, false, cond}
use mathlib.Core.List.{List, [], ◌∷◌, ◌++◌, append_assoc, append-nil}
use lib.ListN.{length, take, drop, get_or, set, length-set, drop_of_length-le}
use lib.Seq.{take-suc-set, drop-set-lt, drop-cons}
use lib.Ieee.{Float, nan, lt}
use Rattle.num_floats.specs.Numbers.{zero64}
use Rattle.num_sort.specs.Sort.{AllClear}
use Rattle.num_sort.specs.Order.{clear_of_pos}
use Rattle.skills.specs.Value.{positives}

pub clear_positives : (xs : List Float) → AllClear (positives xs)
unfolding positives
clear_positives [] = tt
clear_positives (x ∷ xs) = go (clear_positives xs) (lt zero64 x) refl
  where
    go : AllClear (positives xs) → (b : Bool) → lt zero64 x ≡ b → AllClear (cond b (x ∷ positives xs) (positives xs))
    go r true e = (clear_of_pos x e, r)
    go r false e = r

-- the loop's invariant: k of the first i elements are kept
pub record Keeping (a₀ a : List Float) (k i : ℕ) : Type 0 where
  pub below : k ≤ i
  pub kept : length a ≡ length a₀
  pub lists : take k a ++ positives (drop i a) ≡ positives a₀

module _ {a₀ a : List Float} {k i : ℕ} (m : Keeping a₀ a k i) where
  module _ (h : i < length a) where
    pub keep_yes : lt zero64 (get_or a i nan) ≡ true → Keeping a₀ (set a k (get_or a i nan)) (k + 1) (i + 1)
    unfolding positives
    keep_yes t =
        let x = get_or a i nan in
        let q : k < length a = omega (arith, m.below) in
        let p : k < suc i = omega (arith, m.below) in
        let l : take (k + 1) (set a k x) ++ positives (drop (i + 1) (set a k x)) ≡ take k a ++ positives (drop i a) =
        rw (add-one k, add-one i, take-suc-set a k x q, drop-set-lt (suc i) a k x p, drop-cons a i nan h) (simp (append_assoc, t)) in
        record
        { below = omega (arith, m.below); kept = simp length-set m.kept; lists = l ∙ m.lists }

    pub keep_no : lt zero64 (get_or a i nan) ≡ false → Keeping a₀ a k (i + 1)
    unfolding positives
    keep_no t =
        let l : take k a ++ positives (drop (i + 1) a) ≡ take k a ++ positives (drop i a) = rw (add-one i, drop-cons a i nan h) (simp t) in
        record
        { below = omega (arith, m.below); kept = m.kept; lists = l ∙ m.lists }

  pub keep_done : length a ≤ i → take k a ≡ positives a₀
  unfolding positives
  keep_done h =
      let e : drop i a ≡ [] = drop_of_length-le a h in
      sym (append-nil (take k a)) ∙ ap (λ (l : List Float). take k a ++ positives l) (sym e) ∙ m.lists
