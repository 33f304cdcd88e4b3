-- Laws of `moved`, `rowsUp` and `rowsDown`: what the part that was copied to holds, and that all else stays.
-- Assumes nothing.
use Rattle.std.specs.Prelude.{◌≡◌, take, drop}
use Rattle.std.proofs.Math.Path.{sym, ap}
use Rattle.std.proofs.Common.{◌∙◌, mul-zero, mul-le-mul_left, take-append-drop, take-take, drop-drop}
use mathlib.Core.List.{List, ◌++◌, append_assoc}
use Prim.Native.Nat.{ℕ, suc, ◌+◌, ◌-◌, ◌*◌, ◌≤◌, ◌<◌}
use Rattle.std.proofs.Math.Nat.{add-zero, mul-add}
use native.Mathlib.Omega.{arith}
use Rattle.std.proofs.Math.Decide.{dec_lt}
use Rattle.std.proofs.Math.ListN.{length, length-drop}
use Rattle.std.proofs.Math.Seq.{length-take-le, paste}
use Rattle.num_tables.specs.Parts.{part, put, moved, row, rows_up, rows_down}
use Rattle.num_tables.proofs.Rows.{rows_apart, part_append, put_append, take-drop, length_put, take_put, drop_put, part_put_same, part_put_before, part_put_after}

module _ {ℓ} {A : Type ℓ} where
  pub length_part : (at n : ℕ) (l : List A) → at + n ≤ length l → length (part at n l) ≡ n
  unfolding part
  length_part at n l h = length-take-le n (drop at l) (simp length-drop (omega arith))

  -- a part of a part
  pub part_part : (at n i m : ℕ) (l : List A) → i + m ≤ n → part i m (part at n l) ≡ part (at + i) m l
  unfolding part
  part_part at n i m l h =
      take-drop i m (take n (drop at l))
      ∙ (ap (drop i) (take-take (i + m) n (drop at l) h)
      ∙ (sym (take-drop i m (drop at l))
      ∙ ap (take m) (drop-drop i at l)))

  pub moved_none : (from to : ℕ) (l : List A) → moved from to 0 l ≡ l
  unfolding moved put part
  moved_none from to l = rw add-zero (take-append-drop to l)

  -- the library's copying within a slice
  pub copied_moved : (from to n : ℕ) (l : List A) → from + n ≤ length l → paste l to (drop from l) (from + n - from) ≡ moved from to n l
  unfolding moved put part
  copied_moved from to n l h =
      let e : from + n - from ≡ n = omega arith in
      rw (e, length_part from n l h) (append_assoc (take to l) (take n (drop from l)) (drop (to + n) l))

  -- both parts lie within the list
  module _ (from to n : ℕ) (l : List A) (hf : from + n ≤ length l) (ht : to + n ≤ length l) where
    wide : to + length (part from n l) ≤ length l
    wide = rw (length_part from n l hf) ht

    pub length_moved : length (moved from to n l) ≡ length l
    unfolding moved
    length_moved = length_put to (part from n l) l wide

    pub take_moved : (m : ℕ) → m ≤ to → take m (moved from to n l) ≡ take m l
    unfolding moved
    take_moved m h = take_put m to (part from n l) l h (omega arith)

    pub drop_moved : (m : ℕ) → to + n ≤ m → drop m (moved from to n l) ≡ drop m l
    unfolding moved
    drop_moved m h = drop_put m to (part from n l) l (rw (length_part from n l hf) h) wide

    pub part_moved_same : part to n (moved from to n l) ≡ part from n l
    unfolding moved
    part_moved_same = part_put_same to (part from n l) l n (length_part from n l hf) ht

    pub part_moved_in : (i m : ℕ) → i + m ≤ n → part (to + i) m (moved from to n l) ≡ part (from + i) m l
    part_moved_in i m h =
        sym (part_part to n i m (moved from to n l) h) ∙ (ap (part i m) part_moved_same ∙ part_part from n i m l h)

    pub part_moved_before : (i m : ℕ) → i + m ≤ to → part i m (moved from to n l) ≡ part i m l
    unfolding moved
    part_moved_before i m h = part_put_before i m to (part from n l) l h (omega arith)

    pub part_moved_after : (i m : ℕ) → to + n ≤ i → part i m (moved from to n l) ≡ part i m l
    unfolding moved
    part_moved_after i m h = part_put_after i m to (part from n l) l (rw (length_part from n l hf) h) wide

    pub moved_append : (r : List A) → moved from to n (l ++ r) ≡ moved from to n l ++ r
    unfolding moved
    moved_append r = ap (λ (vs : List A). put to vs (l ++ r)) (part_append from n l r hf) ∙ sym (put_append to (part from n l) l r wide)

  -- n rows, from row from on, copied to row to: the table has room for both parts, where there are any
  module _ (w from to n : ℕ) (t : List A) (hf : 0 < n → w * (from + n) ≤ length t) (ht : 0 < n → w * (to + n) ≤ length t) where
    abbrev Moved : List A
    Moved = moved (w * from) (w * to) (w * n) t

    -- what stays where there is something to copy stays
    stays {ℓ₂} : {B : Type ℓ₂} (f : List A → B) → (0 < n → w * from + w * n ≤ length t → w * to + w * n ≤ length t → f Moved ≡ f t) → f Moved ≡ f t
    stays f g = go (dec_lt 0 n)
      where
        go : Dec (0 < n) → f Moved ≡ f t
        go (yes p) = g p (rw mul-add at (hf p)) (rw mul-add at (ht p))
        go (no p) = let e : n ≡ 0 = omega arith in rw (e, mul-zero) (ap f (moved_none (w * from) (w * to) t))

    length_rows : length Moved ≡ length t
    length_rows = stays length (λ p. length_moved (w * from) (w * to) (w * n) t)

    take_rows : (m : ℕ) → m ≤ to → take (w * m) Moved ≡ take (w * m) t
    take_rows m h = stays (take (w * m)) (λ p a b. take_moved (w * from) (w * to) (w * n) t a b (w * m) (mul-le-mul_left w h))

    below : {m : ℕ} → to + n ≤ m → w * to + w * n ≤ w * m
    below h = rw mul-add at (mul-le-mul_left w h)

    drop_rows : (m : ℕ) → (0 < n → to + n ≤ m) → drop (w * m) Moved ≡ drop (w * m) t
    drop_rows m h = stays (drop (w * m)) (λ p a b. drop_moved (w * from) (w * to) (w * n) t a b (w * m) (below (h p)))

    append_rows : (r : List A) → moved (w * from) (w * to) (w * n) (t ++ r) ≡ Moved ++ r
    append_rows r = go (dec_lt 0 n)
      where
        go : Dec (0 < n) → moved (w * from) (w * to) (w * n) (t ++ r) ≡ Moved ++ r
        go (yes p) = moved_append (w * from) (w * to) (w * n) t (rw mul-add at (hf p)) (rw mul-add at (ht p)) r
        go (no p) = let e : n ≡ 0 = omega arith in rw (e, mul-zero) (moved_none (w * from) (w * to) (t ++ r) ∙ ap (λ (x : List A). x ++ r) (sym (moved_none (w * from) (w * to) t)))

    row_in : (i : ℕ) → i < n → row w Moved (to + i) ≡ row w t (from + i)
    unfolding row
    row_in i h =
        rw (mul-add w to i, mul-add w from i) (part_moved_in (w * from) (w * to) (w * n) t a b (w * i) w (rows_apart w h))
      where
        a : w * from + w * n ≤ length t
        a = rw mul-add at (hf (omega arith))

        b : w * to + w * n ≤ length t
        b = rw mul-add at (ht (omega arith))

    row_out : (j : ℕ) → (to ≤ j → j < to + n → ⊥) → row w Moved j ≡ row w t j
    unfolding row
    row_out j o = stays (λ (x : List A). part (w * j) w x) (λ p a b. go a b (dec_lt j to))
      where
        go : w * from + w * n ≤ length t → w * to + w * n ≤ length t → Dec (j < to) → part (w * j) w Moved ≡ part (w * j) w t
        go a b (yes p) = part_moved_before (w * from) (w * to) (w * n) t a b (w * j) w (rows_apart w p)
        go a b (no p) = part_moved_after (w * from) (w * to) (w * n) t a b (w * j) w (below (omega (arith, o (omega arith))))

  -- there is nothing to copy
  module _ (w from to : ℕ) (t : List A) where
    pub rows_up_none : to ≤ from → rows_up w from to t ≡ t
    unfolding rows_up
    rows_up_none h = let e : to - from ≡ 0 = omega arith in rw (e, mul-zero) (moved_none (w * from) (w * (from + 1)) t)

    pub rows_down_none : to ≤ from + 1 → rows_down w from to t ≡ t
    unfolding rows_down
    rows_down_none h = let e : to - (from + 1) ≡ 0 = omega arith in rw (e, mul-zero) (moved_none (w * (from + 1)) (w * from) t)

  -- one place up
  module _ (w from to : ℕ) (t : List A) (h : from < to → w * (to + 1) ≤ length t) where
    up_from : 0 < to - from → w * (from + (to - from)) ≤ length t
    up_from p =
        let e : from + (to - from) ≡ to = omega arith in
        let m : w * to ≤ w * (to + 1) = mul-le-mul_left w (omega arith) in
        rw e (omega (arith, h (omega arith)))

    up_to : 0 < to - from → w * (from + 1 + (to - from)) ≤ length t
    up_to p = let e : from + 1 + (to - from) ≡ to + 1 = omega arith in rw e (h (omega arith))

    pub length_rows_up : length (rows_up w from to t) ≡ length t
    unfolding rows_up
    length_rows_up = length_rows w from (from + 1) (to - from) t up_from up_to

    pub take_rows_up : (m : ℕ) → m ≤ from + 1 → take (w * m) (rows_up w from to t) ≡ take (w * m) t
    unfolding rows_up
    take_rows_up m k = take_rows w from (from + 1) (to - from) t up_from up_to m k

    pub drop_rows_up : (m : ℕ) → (from < to → to + 1 ≤ m) → drop (w * m) (rows_up w from to t) ≡ drop (w * m) t
    unfolding rows_up
    drop_rows_up m k = drop_rows w from (from + 1) (to - from) t up_from up_to m (λ p. omega (arith, k (omega arith)))

    pub rows_up_append : (r : List A) → rows_up w from to (t ++ r) ≡ rows_up w from to t ++ r
    unfolding rows_up
    rows_up_append r = append_rows w from (from + 1) (to - from) t up_from up_to r

    pub row_rows_up : (j : ℕ) → from ≤ j → j < to → row w (rows_up w from to t) (suc j) ≡ row w t j
    unfolding rows_up
    row_rows_up j a b =
        let e : suc j ≡ from + 1 + (j - from) = omega arith in
        let d : from + (j - from) ≡ j = omega arith in
        ap (row w (rows_up w from to t)) e
        ∙ (row_in w from (from + 1) (to - from) t up_from up_to (j - from) (omega arith) ∙ ap (row w t) d)

    pub row_rows_up_out : (j : ℕ) → (from < j → j ≤ to → ⊥) → row w (rows_up w from to t) j ≡ row w t j
    unfolding rows_up
    row_rows_up_out j o = row_out w from (from + 1) (to - from) t up_from up_to j (λ a b. o (omega arith) (omega arith))

  -- one place down
  module _ (w from to : ℕ) (t : List A) (h : from + 1 < to → w * to ≤ length t) where
    down_from : 0 < to - (from + 1) → w * (from + 1 + (to - (from + 1))) ≤ length t
    down_from p = let e : from + 1 + (to - (from + 1)) ≡ to = omega arith in rw e (h (omega arith))

    down_to : 0 < to - (from + 1) → w * (from + (to - (from + 1))) ≤ length t
    down_to p =
        let m : w * (from + (to - (from + 1))) ≤ w * to = mul-le-mul_left w (omega arith) in
        omega (arith, h (omega arith))

    pub length_rows_down : length (rows_down w from to t) ≡ length t
    unfolding rows_down
    length_rows_down = length_rows w (from + 1) from (to - (from + 1)) t down_from down_to

    pub take_rows_down : (m : ℕ) → m ≤ from → take (w * m) (rows_down w from to t) ≡ take (w * m) t
    unfolding rows_down
    take_rows_down m k = take_rows w (from + 1) from (to - (from + 1)) t down_from down_to m k

    pub drop_rows_down : (m : ℕ) → (from + 1 < to → to ≤ m + 1) → drop (w * m) (rows_down w from to t) ≡ drop (w * m) t
    unfolding rows_down
    drop_rows_down m k = drop_rows w (from + 1) from (to - (from + 1)) t down_from down_to m (λ p. omega (arith, k (omega arith)))

    pub rows_down_append : (r : List A) → rows_down w from to (t ++ r) ≡ rows_down w from to t ++ r
    unfolding rows_down
    rows_down_append r = append_rows w (from + 1) from (to - (from + 1)) t down_from down_to r

    pub row_rows_down : (j : ℕ) → from ≤ j → suc j < to → row w (rows_down w from to t) j ≡ row w t (suc j)
    unfolding rows_down
    row_rows_down j a b =
        let e : from + (j - from) ≡ j = omega arith in
        let d : from + 1 + (j - from) ≡ suc j = omega arith in
        ap (row w (rows_down w from to t)) (sym e)
        ∙ (row_in w (from + 1) from (to - (from + 1)) t down_from down_to (j - from) (omega arith) ∙ ap (row w t) d)

    pub row_rows_down_out : (j : ℕ) → (from ≤ j → suc j < to → ⊥) → row w (rows_down w from to t) j ≡ row w t j
    unfolding rows_down
    row_rows_down_out j o = row_out w (from + 1) from (to - (from + 1)) t down_from down_to j (λ a b. o (omega arith) (omega arith))
