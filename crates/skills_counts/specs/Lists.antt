-- The Rust's counts over a list of strains, in its order of operations: any/difficulty/skills.rs, skills/strain.rs, skills/aim.rs and skills/speed.rs, with
-- the exp of document 01. Order 2: "Empty lists and a zero top strain answer as the Rust does. Sums run in place order". Definitions only.
use Rattle.std.specs.Prelude.{ℕ, ◌+◌, ◌-◌, cond, List, [], ◌∷◌, map, ltb, pos, length, Float}
use Rattle.std.specs.Float.Ieee as Ieee
use Rattle.std.specs.Float.{binary64}
use Rattle.num_floats.specs.Numbers.{f64, ◌⊕◌, ◌⊖◌, ◌⊗◌, ◌⊘◌, zero64, one64}
use Rattle.num_floats.specs.Compare.{max_of}
use Rattle.num_elementary.specs.Power.{exp_of}
use Rattle.num_util.specs.Difficulty.{logistic}
use Rattle.num_util.specs.FloatExt.{eq}
use Rattle.skills.specs.Value.{sum_from}

-- ---- The top strain

-- 10: a difficulty value is ten times the top strain of strains that are all the same
abbrev pub ten : Float
ten = f64 0x4024000000000000

-- 0.88, where a strain counts half of the most
abbrev pub middle : Float
middle = f64 0x3FEC28F5C28F5C29

-- 1.1, the most that a strain counts
abbrev pub most : Float
most = f64 0x3FF199999999999A

unfoldable pub top_strain : Float → Float
top_strain difficulty = difficulty ⊘ ten

-- a strain's term in the sum of any/difficulty/skills.rs
unfoldable pub weight : Float → Float → Float
weight strain top = most ⊘ (one64 ⊕ exp_of (Ieee.neg ten ⊗ (strain ⊘ top ⊖ middle)))

-- a slider's in that of skills/strain.rs
unfoldable pub slider_weight : Float → Float → Float
slider_weight strain top = logistic (strain ⊘ top) middle ten most

-- the terms, added from 0 in list order
abbrev pub sum_of : (Float → Float) → List Float → Float
sum_of term strains = sum_from zero64 (map term strains)

-- any/difficulty/skills.rs, count_top_weighted_strains
unfoldable pub count_top_weighted_strains : List Float → Float → Float
count_top_weighted_strains [] difficulty = zero64
count_top_weighted_strains (x ∷ xs) difficulty =
    let top = top_strain difficulty in
    cond (eq top zero64) (Ieee.of_int binary64 (pos (length (x ∷ xs)))) (sum_of (λ s. weight s top) (x ∷ xs))

-- skills/strain.rs, count_top_weighted_sliders
unfoldable pub count_top_weighted_sliders : List Float → Float → Float
count_top_weighted_sliders [] difficulty = zero64
count_top_weighted_sliders (x ∷ xs) difficulty =
    let top = top_strain difficulty in
    cond (eq top zero64) zero64 (sum_of (λ s. slider_weight s top) (x ∷ xs))

-- ---- The largest strain

-- 12 and 6: a strain of half the largest counts half
abbrev pub twelve : Float
twelve = f64 0x4028000000000000

abbrev pub six : Float
six = f64 0x4018000000000000

-- a strain's term in the sums of skills/aim.rs and skills/speed.rs; `recip` is 1 divided by a number
unfoldable pub share : Float → Float → Float
share strain largest = one64 ⊘ (one64 ⊕ exp_of (Ieee.neg (strain ⊘ largest ⊗ twelve ⊖ six)))

-- fold(from, f64::max)
unfoldable pub max_from : Float → List Float → Float
max_from from [] = from
max_from from (x ∷ xs) = max_from (max_of from x) xs

-- skills/aim.rs, get_difficult_sliders
unfoldable pub get_difficult_sliders : List Float → Float
get_difficult_sliders [] = zero64
get_difficult_sliders (x ∷ xs) =
    let largest = max_from zero64 (x ∷ xs) in
    cond (eq largest zero64) zero64 (sum_of (λ s. share s largest) (x ∷ xs))

-- 2^63 and 2^64 - 1: the sign's bit, and all bits
abbrev pub sign_bit : ℕ
sign_bit = 0x8000000000000000

abbrev pub all_bits : ℕ
all_bits = 0xFFFFFFFFFFFFFFFF

-- f64::total_cmp compares these: sign and size of the bits as one number, so that -0 is below 0, and NaN, whose sign is clear, is above infinity
unfoldable pub total_key : Float → ℕ
total_key x = let b = Ieee.to_bits binary64 x in cond (ltb b sign_bit) (b + sign_bit) (all_bits - b)

-- the later of equals, as max_by has it
unfoldable pub total_max : Float → Float → Float
total_max a b = cond (ltb (total_key b) (total_key a)) a b

-- max_by(f64::total_cmp), of `from` and the list
unfoldable pub total_max_from : Float → List Float → Float
total_max_from from [] = from
total_max_from from (x ∷ xs) = total_max_from (total_max from x) xs

-- skills/speed.rs, relevant_note_count
unfoldable pub relevant_note_count : List Float → Float
relevant_note_count [] = zero64
relevant_note_count (x ∷ xs) =
    let largest = total_max_from x xs in
    cond (Ieee.lt zero64 largest) (sum_of (λ s. share s largest) (x ∷ xs)) zero64
