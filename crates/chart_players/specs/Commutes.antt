-- An edit of the second player's chart is that player's chart after the edit. Assumes nothing.
use Prim.Native.Nat.{ℕ, ◌+◌, ◌-◌, ◌≤◌}
use Rattle.std.specs.Prelude.{◌≡◌, take, drop}
use Rattle.std.proofs.Math.Path.{refl, ap}
use Rattle.std.proofs.Common.{sym, ◌∙◌, take-append-drop, length-take-le, take_at, arith}
use Rattle.std.proofs.Math.Bool.{true}
use mathlib.Core.List.{List, ◌++◌}
use Rattle.std.proofs.Math.ListN.{length}
use Rattle.num_tables.specs.Parts.{part, put, moved}
use Rattle.num_tables.proofs.Rows.{length_put, drop_put, part_put_after, put_append}
use Rattle.num_tables.proofs.Moves.{length_part, length_moved}
use Rattle.chart_fields.specs.Limits.{header_size}
use Rattle.chart_fields.specs.Objects.{object_at}
use Rattle.chart_fields.specs.declared.Layout.{Layout}
use Rattle.chart_opening.specs.Limits.{settings_start}
use Rattle.chart_opening.specs.Header.{layout_of, header_ok, chart_length}
use Rattle.chart_opening.specs.Accepted.{header_ok_lem}
use Rattle.chart_opening.proofs.Header.{parts, offsets}
use Rattle.chart_replacing.specs.Replace.{put_object}
use Rattle.chart_replacing.specs.Accepted.{Taken, place_fits}
use Rattle.chart_inserting.specs.Insert.{word_bytes, put_word, length_for, points_for, nested_for, recounted, insert_object, remove_object}
use Rattle.chart_inserting.specs.Accepted.{Inserted, Removed}
use Rattle.chart_inserting.specs.Inserted as I
use Rattle.chart_inserting.specs.Removed as R
use Rattle.chart_players.specs.Second.{settings_for, under}
use Rattle.chart_players.specs.Under.{for_length, under_long, layout_under, length_field}

module _ {ℓ} {A : Type ℓ} where
  put_is : (q : ℕ) (ys x : List A) → take q x ++ (ys ++ drop (q + length ys) x) ≡ put q ys x
  unfolding put
  put_is q ys x = refl

  -- two parts put over that lie apart
  take_put_in : (p q : ℕ) (xs l : List A) → p + length xs ≤ q → q ≤ length l → take q (put p xs l) ≡ put p xs (take q l)
  take_put_in p q xs l h k =
      let long : length (take q l) ≡ q = length-take-le q l k in
      let inner : p + length xs ≤ length (take q l) = omega (arith, long) in
      ap (λ (x : List A). take q (put p xs x)) (sym (take-append-drop q l))
      ∙ (ap (take q) (sym (put_append p xs (take q l) (drop q l) inner)) ∙ take_at (put p xs (take q l)) (drop q l) q (length_put p xs (take q l) inner ∙ long))

  pub put_put : (p q : ℕ) (xs ys l : List A) → p + length xs ≤ q → q + length ys ≤ length l → put p xs (put q ys l) ≡ put q ys (put p xs l)
  put_put p q xs ys l h k =
      by_parts
      ∙ ((λ i. sym (take_put_in p q xs l h (omega arith)) i ++ (ys ++ sym (drop_put (q + length ys) p xs l (omega arith) (omega arith)) i)) ∙ as_put (put p xs l))
    where
      as_put : (x : List A) → take q x ++ (ys ++ drop (q + length ys) x) ≡ put q ys x
      as_put x = put_is q ys x

      by_parts : put p xs (put q ys l) ≡ put p xs (take q l) ++ (ys ++ drop (q + length ys) l)
      by_parts =
          ap (put p xs) (sym (as_put l)) ∙ sym (put_append p xs (take q l) (ys ++ drop (q + length ys) l) (omega (arith, length-take-le q l (omega arith))))

module _ (t : List ℕ) where
  -- settings and a part behind the header
  under_behind : (at : ℕ) (xs l : List ℕ) → header_size ≤ at → at + length xs ≤ length l → put at xs (under t l) ≡ under t (put at xs l)
  under_behind at xs l h k =
      let long : header_size ≤ length l = omega arith in
      let same : length (put at xs l) ≡ length l = length_put at xs l k in
      ap (put at xs) (under_long t l long)
      ∙ (sym (put_put settings_start at (settings_for t) xs l (omega (arith, for_length t)) k) ∙ sym (under_long t (put at xs l) (omega (arith, same))))

  -- and a part before the settings
  under_before : (at : ℕ) (xs l : List ℕ) → at + length xs ≤ settings_start → header_size ≤ length l → put at xs (under t l) ≡ under t (put at xs l)
  under_before at xs l h k =
      let same : length (put at xs l) ≡ length l = length_put at xs l (omega arith) in
      ap (put at xs) (under_long t l k)
      ∙ (put_put at settings_start xs (settings_for t) l h (omega (arith, for_length t)) ∙ sym (under_long t (put at xs l) (omega (arith, same))))

  under_word : (at x : ℕ) (l : List ℕ) → at + 4 ≤ settings_start → header_size ≤ length l → put_word at x (under t l) ≡ under t (put_word at x l)
  unfolding word_bytes
  under_word at x l h k = under_before at (word_bytes x) l h k

  word_long : (at x : ℕ) (l : List ℕ) → at + 4 ≤ settings_start → header_size ≤ length l → header_size ≤ length (put_word at x l)
  unfolding word_bytes
  word_long at x l h k = rw (length_put at (word_bytes x) l (omega arith)) k

  under_recounted : (lay : Layout) (n : ℕ) (l : List ℕ) → header_size ≤ length l → recounted lay n (under t l) ≡ under t (recounted lay n l)
  unfolding recounted
  under_recounted lay n l k =
      let l1 : List ℕ = put_word 0 n l in
      let k1 : header_size ≤ length l1 = word_long 0 n l (omega arith) k in
      let l2 : List ℕ = put_word 16 (nested_for lay n) l1 in
      let k2 : header_size ≤ length l2 = word_long 16 (nested_for lay n) l1 (omega arith) k1 in
      let l3 : List ℕ = put_word 20 (points_for lay n) l2 in
      let k3 : header_size ≤ length l3 = word_long 20 (points_for lay n) l2 (omega arith) k2 in
      ap (λ (x : List ℕ). put_word 24 (length_for lay n) (put_word 20 (points_for lay n) (put_word 16 (nested_for lay n) x))) (under_word 0 n l (omega arith) k)
      ∙ (ap (λ (x : List ℕ). put_word 24 (length_for lay n) (put_word 20 (points_for lay n) x)) (under_word 16 (nested_for lay n) l1 (omega arith) k1)
      ∙ (ap (put_word 24 (length_for lay n)) (under_word 20 (points_for lay n) l2 (omega arith) k2) ∙ under_word 24 (length_for lay n) l3 (omega arith) k3))

  under_moved : (from to n : ℕ) (l : List ℕ) → header_size ≤ from → header_size ≤ to → from + n ≤ length l → to + n ≤ length l
      → moved from to n (under t l) ≡ under t (moved from to n l)
  unfolding moved
  under_moved from to n l f h k m =
      let same : part from n (under t l) ≡ part from n l = ap (part from n) (under_long t l (omega arith))
      ∙ part_put_after from n settings_start (settings_for t) l (omega (arith, for_length t)) (omega (arith, for_length t)) in
      let long : length (part from n l) ≡ n = length_part from n l k in
      ap (λ (x : List ℕ). put to x (under t l)) same ∙ under_behind to (part from n l) l h (omega (arith, long))

  -- ---- the three edits, where they are accepted
  pub put_object_under : (b : List ℕ) (place : ℕ) (object : List ℕ) → Taken b place object → put_object place object (under t b) ≡ under t (put_object place object b)
  unfolding put_object
  put_object_under b place object taken =
      ap (λ (l : Layout). put (object_at l place) object (under t b)) (layout_under t b) ∙ under_behind (object_at (layout_of b) place) object b (omega arith) (place_fits taken)

  pub insert_object_under : (b : List ℕ) (place : ℕ) (object : List ℕ) → Inserted b place object → insert_object place object (under t b) ≡ under t (insert_object place object b)
  unfolding insert_object
  insert_object_under b place object x =
      let h : header_ok b ≡ true = header_ok_lem b x.opens in
      let lay : Layout = layout_of b in
      let at : ℕ = object_at lay place in
      let end : ℕ = chart_length b in
      let from : at ≤ end = I.place_within_chart b place object h x.at x.room x.long in
      let free : end + lay.object_size ≤ length b = I.free b place object h x.at x.room x.long in
      let up : List ℕ = moved at (at + lay.object_size) (end - at) b in
      let up-long : length up ≡ length b = length_moved at (at + lay.object_size) (end - at) b (omega (arith, from, free)) (omega (arith, from, free)) in
      let in-long : length (put at object up) ≡ length b = length_put at object up (omega (arith, x.long, up-long, from, free)) ∙ up-long in
      (λ i. recounted (layout_under t b i) ((layout_under t b i).n + 1)
      (put (object_at (layout_under t b i) place) object
      (moved (object_at (layout_under t b i) place) (object_at (layout_under t b i) place + (layout_under t b i).object_size) (length_field t b i - object_at (layout_under t b i) place) (under t b))))
      ∙ (ap (λ (y : List ℕ). recounted lay (lay.n + 1) (put at object y)) (under_moved at (at + lay.object_size) (end - at) b (omega arith) (omega arith) (omega (arith, from, free)) (omega (arith, from, free)))
      ∙ (ap (recounted lay (lay.n + 1)) (under_behind at object up (omega arith) (omega (arith, x.long, up-long, from, free)))
      ∙ under_recounted lay (lay.n + 1) (put at object up) (omega (arith, in-long, (parts b h).long))))

  pub remove_object_under : (b : List ℕ) (place : ℕ) → Removed b place → remove_object place (under t b) ≡ under t (remove_object place b)
  unfolding remove_object
  remove_object_under b place x =
      let h : header_ok b ≡ true = header_ok_lem b x.opens in
      let lay : Layout = layout_of b in
      let at : ℕ = object_at lay place in
      let next : ℕ = at + lay.object_size in
      let end : ℕ = chart_length b in
      let within : next ≤ end = R.place_ends b place h x.below in
      let fits : end ≤ length b = (offsets b lay (parts b h).offsets).fits in
      let down : List ℕ = moved next at (end - next) b in
      let down-long : length down ≡ length b = length_moved next at (end - next) b (omega (arith, within, fits)) (omega (arith, within, fits)) in
      (λ i. recounted (layout_under t b i) ((layout_under t b i).n - 1)
      (moved (object_at (layout_under t b i) place + (layout_under t b i).object_size) (object_at (layout_under t b i) place)
      (length_field t b i - (object_at (layout_under t b i) place + (layout_under t b i).object_size)) (under t b)))
      ∙ (ap (recounted lay (lay.n - 1)) (under_moved next at (end - next) b (omega arith) (omega arith) (omega (arith, within, fits)) (omega (arith, within, fits)))
      ∙ under_recounted lay (lay.n - 1) down (omega (arith, down-long, (parts b h).long)))
