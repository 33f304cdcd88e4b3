-- A call that borrows the front of the opening's table writes what it would write to the whole of it, and reads the same there. Assumes nothing.
use mathlib.Core.Path.{◌≡◌, refl, sym, ap, ◌∙◌}
use mathlib.Core.List.{List, ◌++◌}
use Prim.Native.Nat.{ℕ, zero, suc, ◌+◌, ◌-◌, ◌*◌, ◌≤◌, ◌<◌, min}
use native.Mathlib.Omega.{arith}
use lib.Ieee.{Float}
use lib.ListN.{length, take, drop, length-take, take-append-drop}
use lib.Seq.{take-take, drop-drop}
use Rattle.num_tables.specs.Parts.{part, put, row, fill}
use Rattle.num_tables.proofs.Rows.{take-drop, part_append, fill-append, row_fill_out}
use Rattle.calls.specs.Tables.{Borrowed, own, front, foreign, IsOwn, contents, length_of, table_after}

module _ {A : Type 0} where
  -- lists that are the same behind a place are so behind any later one
  pub later_drop : (i j : ℕ) (x y : List A) → i ≤ j → drop i x ≡ drop i y → drop j x ≡ drop j y
  later_drop i j x y h e =
      let p : j ≡ i + (j - i) = omega arith in
      ap (λ (n : ℕ). drop n x) p
      ∙ (sym (drop-drop (j - i) i x) ∙ (ap (drop (j - i)) e ∙ (drop-drop (j - i) i y ∙ ap (λ (n : ℕ). drop n y) (sym p))))

  pub fill-same : (w : ℕ) (f g : ℕ → List A) (lo n : ℕ) (t : List A) → ((j : ℕ) → lo ≤ j → j < lo + n → f j ≡ g j) → fill w f lo n t ≡ fill w g lo n t
  unfolding fill
  fill-same w f g lo zero t h = refl
  fill-same w f g lo (suc n) t h =
      fill-same w f g (suc lo) n (put (w * lo) (f lo) t) (λ j a b. h j (omega arith) (omega arith))
      ∙ ap (λ (x : List A). fill w g (suc lo) n (put (w * lo) x t)) (h lo (omega arith) (omega arith))

  row_take : (w m j : ℕ) (t : List A) → w * j + w ≤ m → row w (take m t) j ≡ row w t j
  unfolding row part
  row_take w m j t h = take-drop (w * j) w (take m t) ∙ (ap (drop (w * j)) (take-take (w * j + w) m t h) ∙ sym (take-drop (w * j) w t))

  row_append : (w j : ℕ) (x r : List A) → w * j + w ≤ length x → row w (x ++ r) j ≡ row w x j
  unfolding row
  row_append w j x r h = part_append (w * j) w x r h

-- ---- What a call is lent of a table, and what it leaves of it

pub after_same : (t : Borrowed) (x : List Float) → table_after t (contents t x) x ≡ x
unfolding table_after contents
after_same own x = refl
after_same (front n) x = take-append-drop n x
after_same (foreign y) x = refl

pub length_lent : (t : Borrowed) (x : List Float) (n : ℕ) → length x ≡ n → length (contents t x) ≡ length_of t n
unfolding contents length_of
length_lent own x n e = e
length_lent (front m) x n e = length-take m x ∙ ap (min m) e
length_lent (foreign y) x n e = refl

pub lent_shorter : (t : Borrowed) → IsOwn t → (x : List Float) → length (contents t x) ≤ length x
unfolding contents
lent_shorter own o x = omega arith
lent_shorter (front m) o x = omega (arith, length-take m x)
lent_shorter (foreign y) o x = absurd o

pub row_lent : (t : Borrowed) → IsOwn t → (w j : ℕ) (x : List Float) → w * j + w ≤ length (contents t x) → row w (contents t x) j ≡ row w x j
unfolding contents
row_lent own o w j x h = refl
row_lent (front m) o w j x h = row_take w m j x (omega (arith, length-take m x))
row_lent (foreign y) o w j x h = absurd o

-- what it leaves stands in the opening's table
pub row_left : (t : Borrowed) → IsOwn t → (w j : ℕ) (y x : List Float) → w * j + w ≤ length y → row w (table_after t y x) j ≡ row w y j
unfolding table_after
row_left own o w j y x h = refl
row_left (front m) o w j y x h = row_append w j y (drop m x) h
row_left (foreign z) o w j y x h = absurd o

-- what is done to the lent part is done to the whole, where it leaves alone what stands behind that part
pub after_whole : (t : Borrowed) → IsOwn t → (g : List Float → List Float) (x : List Float)
    → ((r : List Float) → g (contents t x) ++ r ≡ g (contents t x ++ r)) → table_after t (g (contents t x)) x ≡ g x
unfolding table_after contents
after_whole own o g x h = refl
after_whole (front m) o g x h = h (drop m x) ∙ ap g (take-append-drop m x)
after_whole (foreign y) o g x h = absurd o

pub after_fill : (t : Borrowed) → IsOwn t → (w : ℕ) (f : ℕ → List Float) → ((j : ℕ) → length (f j) ≡ w) → (lo n : ℕ) (x : List Float)
    → (0 < n → w * (lo + n) ≤ length (contents t x)) → table_after t (fill w f lo n (contents t x)) x ≡ fill w f lo n x
after_fill t o w f wide lo n x h = after_whole t o (fill w f lo n) x (λ r. fill-append w f wide lo n (contents t x) r h)

-- a row that is not made anew
module _ (w : ℕ) (f : ℕ → List Float) (wide : (j : ℕ) → length (f j) ≡ w) (lo n : ℕ) (x : List Float) (j : ℕ) (out : lo ≤ j → j < lo + n → ⊥) where
  row_own : (t : Borrowed) → IsOwn t → (0 < n → w * (lo + n) ≤ length (contents t x)) → row w (table_after t (fill w f lo n (contents t x)) x) j ≡ row w x j
  row_own t o h =
      ap (λ (l : List Float). row w l j) (after_fill t o w f wide lo n x h)
      ∙ row_fill_out w f wide j lo n x (λ z. omega (arith, h z, lent_shorter t o x)) out

  row_foreign : (y : List Float) → row w (table_after (foreign y) (fill w f lo n (contents (foreign y) x)) x) j ≡ row w x j
  unfolding table_after
  row_foreign y = refl

  pub row_after_lem : (t : Borrowed) → (0 < n → w * (lo + n) ≤ length (contents t x)) → row w (table_after t (fill w f lo n (contents t x)) x) j ≡ row w x j
  row_after_lem own h = row_own own tt h
  row_after_lem (front m) h = row_own (front m) tt h
  row_after_lem (foreign y) h = row_foreign y
