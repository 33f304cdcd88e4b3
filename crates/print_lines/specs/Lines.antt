-- Document 01, "The lister": its lines, and those of records and of readings, which the test programs print. Definitions only.
use Rattle.std.specs.Prelude.{ℕ, Bool, cond, List, [], ◌∷◌, ◌++◌, Float}
use Rattle.print_text.specs.Text.{ascii, decimal_text, f64_text, f32_text}
use Rattle.eval_aim.specs.declared.AimRule.{AimRule}
use Rattle.eval_aim.specs.declared.AimRule.TheVariants.{TooFew, Spinner, Acute, Wide}
use Rattle.eval_aim.specs.declared.AimParts.{AimParts}
use Rattle.eval_rhythm.specs.declared.Counted.{Counted}
use Rattle.skills.specs.declared.Skills.{Skills}
use Rattle.skills_counts.specs.declared.ObjectCounts.{ObjectCounts}
use Rattle.osu_difficulty_object.specs.declared.OsuDifficultyObject.{OsuDifficultyObject}

-- a space and the bits of a number
unfoldable pub number_text : Float → List ℕ
number_text x = ascii " " ++ f64_text x

unfoldable pub numbers_text : List Float → List ℕ
numbers_text [] = []
numbers_text (x ∷ xs) = number_text x ++ numbers_text xs

-- "A refusal prints `refused`, number, place"
unfoldable pub refusal_text : ℕ → ℕ → List ℕ
refusal_text number place = ascii "refused " ++ decimal_text number ++ ascii " " ++ decimal_text place ++ ascii "\n"

-- "the word objects and N"
unfoldable pub count_text : ℕ → List ℕ
count_text n = ascii "objects " ++ decimal_text n ++ ascii "\n"

-- "the place, aim, aim without sliders, speed, rhythm, flashlight": the values in the order of the value table's row
unfoldable pub place_text : ℕ → List Float → List ℕ
place_text j values = decimal_text j ++ numbers_text values ++ ascii "\n"

-- a number for each skill: aim, aim without sliders, speed, flashlight
unfoldable pub skills_text : Skills → List ℕ
skills_text t = numbers_text (t.aim ∷ t.aim_no_sliders ∷ t.speed ∷ t.flashlight ∷ []) ++ ascii "\n"

-- "a line that begins with the word totals"
unfoldable pub totals_text : Skills → List ℕ
totals_text t = ascii "totals" ++ skills_text t

-- the counts in the order of their line
unfoldable pub count_numbers : ObjectCounts → List Float
count_numbers c =
    c.aim_difficult_strain_count
    ∷ c.aim_no_sliders_difficult_strain_count
    ∷ c.speed_difficult_strain_count
    ∷ c.aim_no_sliders_top_weighted_slider_count
    ∷ c.speed_top_weighted_slider_count
    ∷ c.aim_difficult_slider_count
    ∷ c.speed_note_count
    ∷ []

-- order 2: "the word counts, then weighted strains for aim, aim without sliders and speed, weighted sliders for aim without sliders and speed, difficult
-- sliders for aim, and the relevant notes, as float bits"
unfoldable pub counts_text : ObjectCounts → List ℕ
counts_text c = ascii "counts" ++ numbers_text (count_numbers c) ++ ascii "\n"

-- ---- The line of a record

unfoldable pub flag_text : Bool → List ℕ
flag_text b = ascii " " ++ cond b (ascii "1") (ascii "0")

unfoldable pub narrow_text : Float → List ℕ
narrow_text x = ascii " " ++ f32_text x

-- times and distances from the object before
unfoldable pub jump_text : OsuDifficultyObject → List ℕ
jump_text r =
    numbers_text
    (r.start_time ∷ r.delta_time ∷ r.adjusted_delta_time ∷ r.lazy_jump_dist ∷ r.min_jump_dist ∷ r.min_jump_time ∷ [])

-- what a slider has
unfoldable pub travel_text : OsuDifficultyObject → List ℕ
travel_text r =
    number_text r.travel_dist
    ++ number_text r.travel_time
    ++ flag_text r.has_lazy_end
    ++ narrow_text r.lazy_end_x
    ++ narrow_text r.lazy_end_y
    ++ number_text r.lazy_travel_dist
    ++ number_text r.lazy_travel_time

unfoldable pub record_text : ℕ → OsuDifficultyObject → List ℕ
record_text j r =
    decimal_text j
    ++ jump_text r
    ++ travel_text r
    ++ flag_text r.has_angle
    ++ number_text r.angle
    ++ number_text r.small_circle_bonus
    ++ ascii "\n"

-- ---- The lines of document 02, orders 7 and 12

-- the rule that answered, as a digit of ASCII
abbrev pub rule_digit : AimRule → ℕ
rule_digit TooFew = 48
rule_digit Spinner = 49
rule_digit Acute = 50
rule_digit Wide = 51

unfoldable pub rule_text : AimRule → List ℕ
rule_text rule = ascii " " ++ (rule_digit rule ∷ [])

unfoldable pub bonuses_text : AimParts → List ℕ
bonuses_text p = number_text p.wide ++ number_text p.acute ++ number_text p.wiggle ++ number_text p.vel_change ++ number_text p.slider

-- "Beside the value give both velocities [..], the wide, acute, wiggle, velocity-change and slider bonuses, and which rule answered"
unfoldable pub parts_text : Float → AimParts → List ℕ
parts_text value p = number_text value ++ number_text p.curr_vel ++ number_text p.prev_vel ++ bonuses_text p ++ rule_text p.rule

-- with sliders, then without
unfoldable pub aim_text : ℕ → Float → AimParts → Float → AimParts → List ℕ
aim_text j x p y q = decimal_text j ++ parts_text x p ++ parts_text y q ++ ascii "\n"

-- the rhythm value and the comparisons for it
unfoldable pub rhythm_text : ℕ → Counted → List ℕ
rhythm_text j r = decimal_text j ++ number_text r.value ++ ascii " " ++ decimal_text r.comparisons ++ ascii "\n"
