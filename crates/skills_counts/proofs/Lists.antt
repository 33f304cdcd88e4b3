-- The Rust's counts by what the walk gives: sums and largest strains of a list as strains joined to a number. Assumes nothing.
use Prim.Native.Nat.{ℕ, zero, suc, ◌-◌, ◌≤◌, ◌<◌}
use native.Mathlib.Omega.{arith}
use mathlib.Core.Path.{◌≡◌, refl, sym, ap, ◌∙◌}
use mathlib.Core.Bool.{Bool, true, false, cond}
use mathlib.Core.List.{List, [], ◌∷◌, map}
use lib.Dec.{ltb}
use lib.IntN.{pos}
use lib.ListN.{length}
use lib.Ieee as Ieee
use lib.Ieee.{Float, binary64}
use Rattle.num_floats.specs.Numbers.{◌⊕◌, zero64}
use Rattle.num_util.specs.FloatExt.{eq}
use Rattle.skills.specs.Value.{sum_from}
use Rattle.num_floats.specs.Compare.{max_of}
use Rattle.skills_counts.specs.Lists.{top_strain, weight, slider_weight, share, sum_of, count_top_weighted_strains, count_top_weighted_sliders, max_from, get_difficult_sliders, total_key, total_max, total_max_from, relevant_note_count}
use Rattle.skills_counts.specs.Counts.{list_from, every}
use Rattle.std.specs.List.{fold, FoldsTo}

-- ---- what is joined

-- a step of a sum of terms
abbrev pub adding : (Float → Float) → Float → Float → Float
adding term to x = to ⊕ term x

-- steps that give what f does fold by f
pub folds_is : (R : Float → Float → Float → Type 0) (f : Float → Float → Float) → ((to x r : Float) → R to x r → r ≡ f to x)
    → (to : Float) (xs : List Float) (r : Float) → FoldsTo R to xs r → r ≡ fold f to xs
folds_is R f h to [] r e = sym e
folds_is R f h to (x ∷ xs) r e = folds_is R f h e.0 xs r e.2 ∙ ap (λ (t : Float). fold f t xs) (h to x e.0 e.1)

sums : (term : Float → Float) (to : Float) (l : List Float) → fold (adding term) to l ≡ sum_from to (map term l)
unfolding sum_from
sums term to [] = refl
sums term to (x ∷ xs) = sums term (to ⊕ term x) xs

pub largest : (to : Float) (l : List Float) → fold max_of to l ≡ max_from to l
unfolding max_from
largest to [] = refl
largest to (x ∷ xs) = largest (max_of to x) xs

total_largest : (to : Float) (l : List Float) → fold total_max to l ≡ total_max_from to l
unfolding total_max_from
total_largest to [] = refl
total_largest to (x ∷ xs) = total_largest (total_max to x) xs

-- ---- the counts, by the test on the top or the largest strain

pub strains_flat : (l : List Float) (difficulty : Float) → 0 < length l → eq (top_strain difficulty) zero64 ≡ true
    → count_top_weighted_strains l difficulty ≡ Ieee.of_int binary64 (pos (length l))
unfolding count_top_weighted_strains
strains_flat [] difficulty h e = absurd (omega arith)
strains_flat (x ∷ xs) difficulty h e = rw e

pub strains_weighed : (l : List Float) (difficulty : Float) → eq (top_strain difficulty) zero64 ≡ false
    → count_top_weighted_strains l difficulty ≡ fold (adding (λ s. weight s (top_strain difficulty))) zero64 l
unfolding count_top_weighted_strains
strains_weighed [] difficulty e = refl
strains_weighed (x ∷ xs) difficulty e = rw e (sym (sums (λ s. weight s (top_strain difficulty)) zero64 (x ∷ xs)))

pub sliders_flat : (l : List Float) (difficulty : Float) → eq (top_strain difficulty) zero64 ≡ true → count_top_weighted_sliders l difficulty ≡ zero64
unfolding count_top_weighted_sliders
sliders_flat [] difficulty e = refl
sliders_flat (x ∷ xs) difficulty e = rw e

pub sliders_weighed : (l : List Float) (difficulty : Float) → eq (top_strain difficulty) zero64 ≡ false
    → count_top_weighted_sliders l difficulty ≡ fold (adding (λ s. slider_weight s (top_strain difficulty))) zero64 l
unfolding count_top_weighted_sliders
sliders_weighed [] difficulty e = refl
sliders_weighed (x ∷ xs) difficulty e = rw e (sym (sums (λ s. slider_weight s (top_strain difficulty)) zero64 (x ∷ xs)))

pub none_difficult : (l : List Float) → eq (max_from zero64 l) zero64 ≡ true → get_difficult_sliders l ≡ zero64
unfolding get_difficult_sliders
none_difficult [] e = refl
none_difficult (x ∷ xs) e = rw e

pub difficult_shares : (l : List Float) → eq (max_from zero64 l) zero64 ≡ false → get_difficult_sliders l ≡ fold (adding (λ s. share s (max_from zero64 l))) zero64 l
unfolding get_difficult_sliders
difficult_shares [] e = refl
difficult_shares (x ∷ xs) e = rw e (sym (sums (λ s. share s (max_from zero64 (x ∷ xs))) zero64 (x ∷ xs)))

-- ---- all strains, from place 1 on

pub length-all : (f : ℕ → Float) (j count : ℕ) → length (list_from every f j count) ≡ count
unfolding list_from
length-all f j zero = refl
length-all f j (suc count) = ap suc (length-all f (suc j) count)

-- of an object or none
pub few_strains : (f : ℕ → Float) (n : ℕ) (difficulty : Float) → n < 2 → count_top_weighted_strains (list_from every f 1 (n - 1)) difficulty ≡ zero64
unfolding list_from count_top_weighted_strains
few_strains f n difficulty h = let e : n - 1 ≡ 0 = omega arith in rw e

pub few_notes : (f : ℕ → Float) (n : ℕ) → n < 2 → relevant_note_count (list_from every f 1 (n - 1)) ≡ zero64
unfolding list_from relevant_note_count
few_notes f n h = let e : n - 1 ≡ 0 = omega arith in rw e

total_max_self : (x : Float) → total_max x x ≡ x
unfolding total_max
total_max_self x = go (ltb (total_key x) (total_key x))
  where
    go : (b : Bool) → cond b x x ≡ x
    go true = refl
    go false = refl

-- the first strain may be joined to itself
module _ (f : ℕ → Float) where
  notes_from : (count : ℕ) (m : Float) → m ≡ fold total_max (f 1) (list_from every f 1 (suc count))
      → relevant_note_count (list_from every f 1 (suc count)) ≡ cond (Ieee.lt zero64 m) (fold (adding (λ s. share s m)) zero64 (list_from every f 1 (suc count))) zero64
  unfolding list_from relevant_note_count
  notes_from count m e =
      let rest = list_from every f 2 count in
      let g : total_max_from (f 1) rest ≡ m = sym (e ∙ ap (λ (x : Float). fold total_max x rest) (total_max_self (f 1)) ∙ total_largest (f 1) rest) in
      ap (λ (x : Float). cond (Ieee.lt zero64 x) (sum_of (λ s. share s x) (f 1 ∷ rest)) zero64) g
      ∙ ap (λ (x : Float). cond (Ieee.lt zero64 m) x zero64) (sym (sums (λ s. share s m) zero64 (f 1 ∷ rest)))

  pub notes : (n : ℕ) → 2 ≤ n → (m : Float) → m ≡ fold total_max (f 1) (list_from every f 1 (n - 1))
      → relevant_note_count (list_from every f 1 (n - 1)) ≡ cond (Ieee.lt zero64 m) (fold (adding (λ s. share s m)) zero64 (list_from every f 1 (n - 1))) zero64
  notes zero h m e = absurd (omega arith)
  notes (suc zero) h m e = absurd (omega arith)
  notes (suc (suc c)) h m e =
      let g : suc (suc c) - 1 ≡ suc c = omega arith in
      ap (λ (i : ℕ). relevant_note_count (list_from every f 1 i)) g
      ∙ notes_from c m (e ∙ ap (λ (i : ℕ). fold total_max (f 1) (list_from every f 1 i)) g)
      ∙ ap (λ (i : ℕ). cond (Ieee.lt zero64 m) (fold (adding (λ s. share s m)) zero64 (list_from every f 1 i)) zero64) (sym g)
