-- Laws of `part`, `put`, `row` and `fill`.
-- Assumes nothing.
use Rattle.std.specs.Prelude.{◌≡◌}
use Rattle.std.proofs.Math.Path.{refl, sym, ap, subst}
use Rattle.std.proofs.Common.{◌∙◌, suc-add, zero-add, add-suc, mul-le-mul_left, length-append, drop-drop, drop_at}
use mathlib.Core.List.{List, [], ◌∷◌, ◌++◌, append_assoc}
use Prim.Native.Nat.{ℕ, zero, suc, ◌+◌, ◌-◌, ◌*◌, ◌≤◌, ◌<◌}
use Rattle.std.proofs.Math.Nat.{add-zero, mul-suc}
use native.Mathlib.Omega.{arith}
use Rattle.std.proofs.Math.Decide.{dec_lt}
use Rattle.std.proofs.Math.ListN.{length, take, drop, length-drop}
use Rattle.std.proofs.Math.Seq.{take-nil, take-append-le, take-take, take_at, length-take-le, drop-append_seam, sets-eq}
use Rattle.std.proofs.lemmas.List.{drop-append-le}
use Rattle.std.proofs.lemmas.List.Edits.{sets}
use Rattle.num_tables.specs.Parts.{part, put, row, fill}

pub rows_apart : (w : ℕ) {i j : ℕ} → i < j → w * i + w ≤ w * j
rows_apart w {i} {j} h = rw mul-suc at (mul-le-mul_left w h)

module _ {ℓ} {A : Type ℓ} where
  -- a part, cut the other way round
  pub take-drop : (i n : ℕ) (l : List A) → take n (drop i l) ≡ drop i (take (i + n) l)
  take-drop zero n l = rw zero-add
  take-drop (suc i) n [] = simp take-nil
  take-drop (suc i) n (x ∷ l) = rw suc-add (take-drop i n l)

  pub length_put : (at : ℕ) (vs l : List A) → at + length vs ≤ length l → length (put at vs l) ≡ length l
  unfolding put
  length_put at vs l h = simp (length-append, length-take-le at l (omega arith), length-drop) (omega arith)

  pub take_put : (n at : ℕ) (vs l : List A) → n ≤ at → at ≤ length l → take n (put at vs l) ≡ take n l
  unfolding put
  take_put n at vs l h k =
      take-append-le n (take at l) (vs ++ drop (at + length vs) l) (simp (length-take-le at l k) h) ∙ take-take n at l h

  drop_seam : (at : ℕ) (vs l : List A) → at + length vs ≤ length l → drop (at + length vs) (put at vs l) ≡ drop (at + length vs) l
  unfolding put
  drop_seam at vs l k =
      sym (drop-drop (length vs) at (put at vs l)) ∙
      (ap (drop (length vs)) (drop_at (take at l) (vs ++ drop (at + length vs) l) at (length-take-le at l (omega arith))) ∙
      drop-append_seam vs (drop (at + length vs) l))

  pub drop_put : (n at : ℕ) (vs l : List A) → at + length vs ≤ n → at + length vs ≤ length l → drop n (put at vs l) ≡ drop n l
  drop_put n at vs l h k =
      let m : ℕ = n - (at + length vs) in
      let e : n ≡ at + length vs + m = omega arith in
      rw e (sym (drop-drop m (at + length vs) (put at vs l)) ∙ (ap (drop m) (drop_seam at vs l k) ∙ drop-drop m (at + length vs) l))

  -- a part that was put over, and those before and after it
  pub part_put_same : (at : ℕ) (vs l : List A) (n : ℕ) → length vs ≡ n → at + n ≤ length l → part at n (put at vs l) ≡ vs
  unfolding put part
  part_put_same at vs l n e k =
      ap (take n) (drop_at (take at l) (vs ++ drop (at + length vs) l) at (length-take-le at l (omega arith))) ∙
      take_at vs (drop (at + length vs) l) n e

  pub part_put_before : (i n at : ℕ) (vs l : List A) → i + n ≤ at → at ≤ length l → part i n (put at vs l) ≡ part i n l
  unfolding part
  part_put_before i n at vs l h k =
      take-drop i n (put at vs l) ∙ (ap (drop i) (take_put (i + n) at vs l h k) ∙ sym (take-drop i n l))

  pub part_put_after : (i n at : ℕ) (vs l : List A) → at + length vs ≤ i → at + length vs ≤ length l → part i n (put at vs l) ≡ part i n l
  unfolding part
  part_put_after i n at vs l h k = ap (take n) (drop_put i at vs l h k)

  -- a list that goes on as r
  pub part_append : (at n : ℕ) (l r : List A) → at + n ≤ length l → part at n (l ++ r) ≡ part at n l
  unfolding part
  part_append at n l r h =
      ap (take n) (drop-append-le at l r (omega arith)) ∙ take-append-le n (drop at l) r (simp length-drop (omega arith))

  pub put_append : (at : ℕ) (vs l r : List A) → at + length vs ≤ length l → put at vs l ++ r ≡ put at vs (l ++ r)
  unfolding put
  put_append at vs l r h =
      append_assoc (take at l) (vs ++ drop (at + length vs) l) r ∙
      (ap (λ (x : List A). take at l ++ x) (append_assoc vs (drop (at + length vs) l) r) ∙
      (λ t. sym (take-append-le at l r (omega arith)) t ++ (vs ++ sym (drop-append-le (at + length vs) l r h) t)))

  -- rows
  pub row_put_same : (w j : ℕ) (vs t : List A) → length vs ≡ w → w * suc j ≤ length t → row w (put (w * j) vs t) j ≡ vs
  unfolding row
  row_put_same w j vs t e h = part_put_same (w * j) vs t w e (rw mul-suc at h)

  pub row_put_other : (w i j : ℕ) (vs t : List A) → length vs ≡ w → w * suc j ≤ length t → (i ≡ j → ⊥) → row w (put (w * j) vs t) i ≡ row w t i
  unfolding row
  row_put_other w i j vs t e h d = go (dec_lt i j)
    where
      fits : w * j + w ≤ length t
      fits = rw mul-suc at h

      go : Dec (i < j) → part (w * i) w (put (w * j) vs t) ≡ part (w * i) w t
      go (yes l) = part_put_before (w * i) w (w * j) vs t (rows_apart w l) (omega arith)
      go (no n) = part_put_after (w * i) w (w * j) vs t (rw e (rows_apart w {i = j} {j = i} (omega arith))) (rw e fits)

  -- a run of stores is a part put over
  pub sets_put : (vs l : List A) (at : ℕ) → at + length vs ≤ length l → sets l at vs ≡ put at vs l
  unfolding put
  sets_put vs l at h = sets-eq vs l at h ∙ append_assoc (take at l) vs (drop (at + length vs) l)

  -- one more row, as a loop that counts upward makes it
  pub fill_suc : (w : ℕ) (f : ℕ → List A) (lo n : ℕ) (t : List A)
      → fill w f lo (suc n) t ≡ put (w * (lo + n)) (f (lo + n)) (fill w f lo n t)
  unfolding fill
  fill_suc w f lo zero t = rw add-zero
  fill_suc w f lo (suc n) t = rw (add-suc, ← (suc-add lo n)) (fill_suc w f (suc lo) n (put (w * lo) (f lo) t))

  -- the start of that loop
  pub fill_none : (w : ℕ) (f : ℕ → List A) (lo : ℕ) (t : List A) → t ≡ fill w f lo (lo - lo) t
  unfolding fill
  fill_none w f lo t = let e : lo - lo ≡ 0 = omega arith in rw e

  -- a turn of that loop: x holds the rows before j, and y the row j too
  pub fill_step : (w : ℕ) (f : ℕ → List A) (lo j : ℕ) (t x y : List A) → lo ≤ j → x ≡ fill w f lo (j - lo) t
      → y ≡ put (w * j) (f j) x → y ≡ fill w f lo (j + 1 - lo) t
  fill_step w f lo j t x y h p q =
      let n : j + 1 - lo ≡ suc (j - lo) = omega arith in
      let e : lo + (j - lo) ≡ j = omega arith in
      rw n (q ∙ (ap (put (w * j) (f j)) p ∙ sym (fill_suc w f lo (j - lo) t ∙ ap (λ m. put (w * m) (f m) (fill w f lo (j - lo) t)) e)))

  -- `fill`: the table has room for the rows made anew, where there are any
  module _ (w : ℕ) (f : ℕ → List A) (wide : (j : ℕ) → length (f j) ≡ w) where
    fits : (lo n : ℕ) (t : List A) → (0 < suc n → w * (lo + suc n) ≤ length t) → w * lo + length (f lo) ≤ length t
    fits lo n t h = rw wide (omega (arith, rows_apart w {i = lo} {j = lo + suc n} (omega arith), h (omega arith)))

    rest : (lo n : ℕ) (t : List A) → (0 < suc n → w * (lo + suc n) ≤ length t) → 0 < n → w * (suc lo + n) ≤ length (put (w * lo) (f lo) t)
    rest lo n t h p = rw (length_put (w * lo) (f lo) t (fits lo n t h), suc-add, ← (add-suc lo n)) (h (omega arith))

    pub length-fill : (lo n : ℕ) (t : List A) → (0 < n → w * (lo + n) ≤ length t) → length (fill w f lo n t) ≡ length t
    unfolding fill
    length-fill lo zero t h = refl
    length-fill lo (suc n) t h =
        length-fill (suc lo) n (put (w * lo) (f lo) t) (rest lo n t h) ∙ length_put (w * lo) (f lo) t (fits lo n t h)

    -- what stands before the rows made anew, and behind them, stays
    pub take-fill : (m lo n : ℕ) (t : List A) → m ≤ lo → (0 < n → w * (lo + n) ≤ length t)
        → take (w * m) (fill w f lo n t) ≡ take (w * m) t
    unfolding fill
    take-fill m lo zero t k h = refl
    take-fill m lo (suc n) t k h =
        take-fill m (suc lo) n (put (w * lo) (f lo) t) (omega arith) (rest lo n t h) ∙
        take_put (w * m) (w * lo) (f lo) t (mul-le-mul_left w k) (omega (arith, fits lo n t h))

    pub drop-fill : (lo n m : ℕ) (t : List A) → (0 < n → lo + n ≤ m) → (0 < n → w * (lo + n) ≤ length t)
        → drop (w * m) (fill w f lo n t) ≡ drop (w * m) t
    unfolding fill
    drop-fill lo zero m t k h = refl
    drop-fill lo (suc n) m t k h =
        drop-fill (suc lo) n m (put (w * lo) (f lo) t) (λ p. omega (arith, k (omega arith))) (rest lo n t h) ∙
        drop_put (w * m) (w * lo) (f lo) t (rw wide (rows_apart w {i = lo} {j = m} (omega (arith, k (omega arith))))) (fits lo n t h)

    pub fill-append : (lo n : ℕ) (l r : List A) → (0 < n → w * (lo + n) ≤ length l) → fill w f lo n l ++ r ≡ fill w f lo n (l ++ r)
    unfolding fill
    fill-append lo zero l r h = refl
    fill-append lo (suc n) l r h =
        fill-append (suc lo) n (put (w * lo) (f lo) l) r (rest lo n l h) ∙
        ap (fill w f (suc lo) n) (put_append (w * lo) (f lo) l r (fits lo n l h))

    room : (lo n : ℕ) (t : List A) → (0 < suc n → w * (lo + suc n) ≤ length t) → w * suc lo ≤ length t
    room lo n t h = omega (arith, rows_apart w {i = lo} {j = lo + suc n} (omega arith), mul-suc w lo, h (omega arith))

    pub row_fill_out : (j lo n : ℕ) (t : List A) → (0 < n → w * (lo + n) ≤ length t) → (lo ≤ j → j < lo + n → ⊥)
        → row w (fill w f lo n t) j ≡ row w t j
    unfolding fill
    row_fill_out j lo zero t h o = refl
    row_fill_out j lo (suc n) t h o =
        row_fill_out j (suc lo) n (put (w * lo) (f lo) t) (rest lo n t h) (λ a b. o (omega arith) (omega arith)) ∙
        row_put_other w j lo (f lo) t (wide lo) (room lo n t h) (λ e. o (omega arith) (omega arith))

    pub row_fill-in : (j lo n : ℕ) (t : List A) → (0 < n → w * (lo + n) ≤ length t) → lo ≤ j → j < lo + n
        → row w (fill w f lo n t) j ≡ f j
    unfolding fill
    row_fill-in j lo zero t h a b = absurd (omega arith)
    row_fill-in j lo (suc n) t h a b =
        go (λ l. row_fill-in j (suc lo) n (put (w * lo) (f lo) t) (rest lo n t h) l (omega arith)) (dec_lt lo j)
      where
        go : (lo < j → row w (fill w f (suc lo) n (put (w * lo) (f lo) t)) j ≡ f j) → Dec (lo < j)
            → row w (fill w f (suc lo) n (put (w * lo) (f lo) t)) j ≡ f j
        go r (yes l) = r l
        go r (no l) =
            let e : lo ≡ j = omega arith in
            row_fill_out j (suc lo) n (put (w * lo) (f lo) t) (rest lo n t h) (λ c d. omega arith) ∙
            subst (λ (i : ℕ). row w (put (w * lo) (f lo) t) i ≡ f i) e (row_put_same w lo (f lo) t (wide lo) (room lo n t h))
