-- A word put into a header reads back (`word_read`); a header with another count of objects: the words that follow from N are new, all others stay, and condition 1
-- holds again (`header`). Assumes nothing.
use Rattle.std.specs.Prelude.{ℕ, ◌+◌, ◌*◌, ◌^◌, ◌/◌, ◌≤◌, ◌<◌, ◌≡◌, refl, true, List, length, take, drop}
use Rattle.std.proofs.Common.{sym, ◌∙◌, mul-le-mul, div-add-mod', mod-eq_of_lt, arith}
use Rattle.std.proofs.Math.Path.{ap}
use Rattle.std.proofs.Math.Nat.{div-div-eq-div-mul}
use Rattle.num_floats.specs.Fields.{u32_at}
use Rattle.num_floats.specs.Same.{Same, shift, u32_same}
use Rattle.num_tables.specs.Parts.{part}
use Rattle.num_tables.proofs.Rows.{length_put, drop_put, part_put_before, part_put_after}
use Rattle.chart_fields.specs.Limits.{header_size, most_objects}
use Rattle.chart_fields.specs.declared.Layout.{Layout}
use Rattle.chart_opening.proofs.Header.{parts, header_by, offsets, offsets_by, few_by, holds}
use Rattle.chart_opening.specs.Same.{settings_same}
use Rattle.chart_opening.specs.Header.{layout_of, header_ok, settings_of, format_of, chart_length}
use Rattle.chart_replacing.specs.Put.{part_same, same-inside}
use Rattle.chart_inserting.specs.Insert.{word_bytes, put_word, nested_for, points_for, length_for, layout_for, recounted}
use Rattle.chart_inserting.specs.OneMore.{count_bytes, setting_bytes}

-- ---- A word

word_length : (x : ℕ) → length (word_bytes x) ≡ 4
unfolding word_bytes
word_length x = refl

-- a number from its remainders and quotients by 256
digits : (x a b c d p q r : ℕ) → p * 0x100 + a ≡ x → q * 0x100 + b ≡ p → r * 0x100 + c ≡ q → d ≡ r → a + b * 0x100 + c * 0x10000 + d * 0x1000000 ≡ x
digits x a b c d p q r e f g h = omega arith

word_value : (x : ℕ) → x < 2 ^ 32 → u32_at (word_bytes x) 0 ≡ x
unfolding u32_at word_bytes
word_value x h =
    let p : ℕ = x / 0x100 in
    let q : x / 0x10000 ≡ p / 0x100 = sym (div-div-eq-div-mul x 0x100 0x100) in
    let r : x / 0x1000000 ≡ x / 0x10000 / 0x100 = sym (div-div-eq-div-mul x 0x10000 0x100) in
    let top : x / 0x1000000 < 0x100 = omega (arith, h) in
    digits x _ _ _ _ p (x / 0x10000) (x / 0x1000000) (div-add-mod' x 0x100)
    (rw q (div-add-mod' p 0x100)) (rw r (div-add-mod' (x / 0x10000) 0x100)) (mod-eq_of_lt top)

module _ (at x : ℕ) (s : List ℕ) (fits : at + 4 ≤ length s) where
  wide : at + length (word_bytes x) ≤ length s
  wide = rw (word_length x) fits

  pub word_read : x < 2 ^ 32 → u32_at (put_word at x s) at ≡ x
  word_read h = u32_same (same-inside s at (word_bytes x) wide) (omega (arith, word_length x)) ∙ word_value x h

  pub word_long : length (put_word at x s) ≡ length s
  word_long = length_put at (word_bytes x) s wide

  pub word_before : (i m : ℕ) → i + m ≤ at → part i m (put_word at x s) ≡ part i m s
  word_before i m l = part_put_before i m at (word_bytes x) s l (omega arith)

  pub word_behind : (i m : ℕ) → at + 4 ≤ i → part i m (put_word at x s) ≡ part i m s
  word_behind i m l = part_put_after i m at (word_bytes x) s (rw (word_length x) l) wide

  pub word_rest : (i : ℕ) → at + 4 ≤ i → drop i (put_word at x s) ≡ drop i s
  word_rest i l = drop_put i at (word_bytes x) s (rw (word_length x) l) wide

-- ---- A header with another count

word_kept : (at m : ℕ) (a b : List ℕ) → part at m a ≡ part at m b → 4 ≤ m → u32_at a at ≡ u32_at b at
word_kept at m a b e h = u32_same (part_same at at m a b e) h

module _ (lay : Layout) (n : ℕ) (p : List ℕ) (long : header_size ≤ length p) where
  abbrev one : List ℕ
  one = put_word 0 n p

  abbrev two : List ℕ
  two = put_word 16 (nested_for lay n) one

  abbrev three : List ℕ
  three = put_word 20 (points_for lay n) two

  one_long : length one ≡ length p
  one_long = word_long 0 n p (omega arith)

  two_long : length two ≡ length p
  two_long = word_long 16 (nested_for lay n) one (omega (arith, one_long)) ∙ one_long

  three_long : length three ≡ length p
  three_long = word_long 20 (points_for lay n) two (omega (arith, two_long)) ∙ two_long

  fits_one : 16 + 4 ≤ length one
  fits_one = omega (arith, one_long)

  fits_two : 20 + 4 ≤ length two
  fits_two = omega (arith, two_long)

  fits_three : 24 + 4 ≤ length three
  fits_three = omega (arith, three_long)

  pub keeps-length : length (recounted lay n p) ≡ length p
  unfolding recounted
  keeps-length = word_long 24 (length_for lay n) three fits_three ∙ three_long

  pub rest_kept : (i : ℕ) → 28 ≤ i → drop i (recounted lay n p) ≡ drop i p
  unfolding recounted
  rest_kept i h =
      word_rest 24 (length_for lay n) three fits_three i h
      ∙ (word_rest 20 (points_for lay n) two fits_two i (omega arith)
      ∙ (word_rest 16 (nested_for lay n) one fits_one i (omega arith)
      ∙ word_rest 0 n p (omega arith) i (omega arith)))

  pub part_kept : (i m : ℕ) → 28 ≤ i → part i m (recounted lay n p) ≡ part i m p
  unfolding part
  part_kept i m h = ap (take m) (rest_kept i h)

  pub counts_kept : part 4 12 (recounted lay n p) ≡ part 4 12 p
  unfolding recounted
  counts_kept =
      word_before 24 (length_for lay n) three fits_three 4 12 (omega arith)
      ∙ (word_before 20 (points_for lay n) two fits_two 4 12 (omega arith)
      ∙ (word_before 16 (nested_for lay n) one fits_one 4 12 (omega arith)
      ∙ word_behind 0 n p (omega arith) 4 12 (omega arith)))

  -- the words are small enough
  module _ (small : length_for lay n < 2 ^ 32) (count : n < 2 ^ 32) where
    pub count_is : u32_at (recounted lay n p) 0 ≡ n
    unfolding recounted
    count_is =
        word_kept 0 4 (recounted lay n p) one
        (word_before 24 (length_for lay n) three fits_three 0 4 (omega arith)
        ∙ (word_before 20 (points_for lay n) two fits_two 0 4 (omega arith)
        ∙ word_before 16 (nested_for lay n) one fits_one 0 4 (omega arith))) (omega arith)
        ∙ word_read 0 n p (omega arith) count

    pub nested_is : u32_at (recounted lay n p) 16 ≡ nested_for lay n
    unfolding recounted
    nested_is =
        word_kept 16 4 (recounted lay n p) two
        (word_before 24 (length_for lay n) three fits_three 16 4 (omega arith)
        ∙ word_before 20 (points_for lay n) two fits_two 16 4 (omega arith)) (omega arith)
        ∙ word_read 16 (nested_for lay n) one fits_one (omega arith)

    pub points_is : u32_at (recounted lay n p) 20 ≡ points_for lay n
    unfolding recounted
    points_is =
        word_kept 20 4 (recounted lay n p) three
        (word_before 24 (length_for lay n) three fits_three 20 4 (omega arith)) (omega arith)
        ∙ word_read 20 (points_for lay n) two fits_two (omega arith)

    pub length_is : chart_length (recounted lay n p) ≡ length_for lay n
    unfolding recounted
    length_is = word_read 24 (length_for lay n) three fits_three small

-- ---- Two headers that differ in what follows from N only

module _ (s t : List ℕ) (c : count_bytes t ≡ count_bytes s) (b : setting_bytes t ≡ setting_bytes s) where
  pub counts_same : Same t 4 s 4 12
  unfolding count_bytes
  counts_same = part_same 4 4 12 t s c

  pub others_same : Same t 28 s 28 52
  unfolding setting_bytes
  others_same = part_same 28 28 52 t s b

  pub settings_by : settings_of t ≡ settings_of s
  settings_by = settings_same (shift others_same 4 48 (omega arith)) (omega arith)

  pub format_by : format_of t ≡ format_of s
  format_by = u32_same others_same (omega arith)

  pub flags_by : u32_at t 76 ≡ u32_at s 76
  flags_by = u32_same (shift others_same 48 4 (omega arith)) (omega arith)

  pub first_by : u32_at t 12 ≡ u32_at s 12
  first_by = u32_same (shift counts_same 8 4 (omega arith)) (omega arith)

  pub layout_by : (n : ℕ) → u32_at t 0 ≡ n → layout_of t ≡ layout_for (layout_of s) n
  unfolding layout_of
  layout_by n e =
      cc (e, u32_same counts_same (omega arith), u32_same (shift counts_same 4 4 (omega arith)) (omega arith), u32_same others_same (omega arith))

-- a layout is the one of its own count
pub layout_own : (s : List ℕ) → layout_for (layout_of s) (layout_of s).n ≡ layout_of s
unfolding layout_of
layout_own s = refl

-- ---- Condition 1 again

module _ (s p : List ℕ) (n : ℕ) (h : header_ok s ≡ true) (l : length p ≡ length s) (c : count_bytes p ≡ count_bytes s) (b : setting_bytes p ≡ setting_bytes s)
    (most : n ≤ most_objects) (fits : length_for (layout_of s) n ≤ length s) where
  abbrev lay : Layout
  lay = layout_of s

  abbrev new : List ℕ
  new = recounted lay n p

  long : header_size ≤ length p
  long = rw l (parts s h).long

  small : length_for lay n < 2 ^ 32
  small =
      let H = holds s h in
      omega (arith, mul-le-mul H.size_most most, H.few_nested, H.few_points)

  count_bytes_lem : count_bytes new ≡ count_bytes s
  unfolding count_bytes
  count_bytes_lem = counts_kept lay n p long ∙ c

  setting_bytes_lem : setting_bytes new ≡ setting_bytes s
  unfolding setting_bytes
  setting_bytes_lem = part_kept lay n p long 28 52 (omega arith) ∙ b

  pub layout : layout_of new ≡ layout_for lay n
  layout = layout_by s new count_bytes_lem setting_bytes_lem n (count_is lay n p long small (omega arith))

  pub settings : settings_of new ≡ settings_of s
  settings = settings_by s new count_bytes_lem setting_bytes_lem

  pub chart_length_lem : chart_length new ≡ length_for lay n
  chart_length_lem = length_is lay n p long small (omega arith)

  pub header : header_ok new ≡ true
  header =
      let H = holds s h in
      let P = parts s h in
      header_by new
      (record {
        long = rw (keeps-length lay n p long) long;
        counts = rw layout (few_by (layout_for lay n) (record { objects = most; nested = H.few_nested; points = H.few_points }));
        offsets = rw layout (offsets_by new (layout_for lay n)
            (record {
              objects = first_by s new count_bytes_lem setting_bytes_lem ∙ (offsets s lay P.offsets).objects;
              nested = nested_is lay n p long small (omega arith);
              points = points_is lay n p long small (omega arith);
              ends = chart_length_lem;
              fits = rw (chart_length_lem, keeps-length lay n p long, l) fits;
            }));
        format = rw (format_by s new count_bytes_lem setting_bytes_lem) P.format;
        flags = rw (flags_by s new count_bytes_lem setting_bytes_lem) P.flags;
      })
