-- How long the lister's lines are at most. Assumes nothing.
use Rattle.std.specs.Prelude.{ℕ, ◌+◌, ◌*◌, ◌≤◌, ◌≡◌, refl, List, [], ◌∷◌, Float, length}
use Rattle.std.proofs.Common.{arith, length-append}
use Rattle.print_text.proofs.Lengths.{decimal_length, f64_length}
use Rattle.skills.specs.declared.Skills.{Skills}
use Rattle.skills_counts.specs.declared.ObjectCounts.{ObjectCounts}
use Rattle.print_lines.specs.Lines.{number_text, numbers_text, refusal_text, count_text, place_text, skills_text, totals_text, count_numbers, counts_text}

number_length : (x : Float) → length (number_text x) ≡ 17
unfolding number_text
number_length x = simp (length-append, f64_length) (omega arith)

pub numbers_length : (xs : List Float) → length (numbers_text xs) ≡ 17 * length xs
unfolding numbers_text
numbers_length [] = refl
numbers_length (x ∷ xs) = simp (length-append, number_length) (omega (arith, numbers_length xs))

pub refusal_length : (number place : ℕ) → length (refusal_text number place) ≤ 50
unfolding refusal_text
refusal_length number place = simp length-append (omega (arith, decimal_length number, decimal_length place))

pub count-length : (n : ℕ) → length (count_text n) ≤ 29
unfolding count_text
count-length n = simp length-append (omega (arith, decimal_length n))

pub place_length : (j : ℕ) (values : List Float) → length (place_text j values) ≤ 21 + 17 * length values
unfolding place_text
place_length j values = simp length-append (omega (arith, decimal_length j, numbers_length values))

pub totals_length : (t : Skills) → length (totals_text t) ≡ 75
unfolding totals_text skills_text
totals_length t =
    simp (length-append, numbers_length (t.aim ∷ t.aim_no_sliders ∷ t.speed ∷ t.flashlight ∷ [])) (omega arith)

pub counts_length : (c : ObjectCounts) → length (counts_text c) ≡ 126
unfolding counts_text count_numbers
counts_length c = simp (length-append, numbers_length (count_numbers c)) (omega arith)
