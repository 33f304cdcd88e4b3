-- skills/strain.rs, difficulty_value, and the sum of skills/flashlight.rs. Document 01, "Strains and totals": "`cs_where` keeps order, `cs_order_descending` puts
-- the largest first, `cs_sum` adds from 0 in list order". Definitions only.
use Rattle.std.specs.Prelude.{ℕ, suc, cond, List, [], ◌∷◌, ltb, pos, Float}
use Rattle.std.specs.Float.Ieee as Ieee
use Rattle.std.specs.Float.{binary32}
use Rattle.std.specs.Float.Ieee.{of_int}
use Rattle.num_floats.specs.Numbers.{f64, ◌⊕◌, ◌⊖◌, ◌⊗◌, zero64, one64}
use Rattle.num_floats.specs.Compare.{clamp_of}
use Rattle.num_elementary.specs.Power.{log10_of}
use Rattle.num_sort.specs.Sort.{sort_desc}
use Rattle.skills.specs.declared.Skill.{Skill}
use Rattle.skills.specs.declared.Skill.TheVariants.{Aim, AimNoSliders, Speed, Flashlight}

-- REDUCED_STRAIN_BASELINE, 0.75
abbrev pub baseline : Float
baseline = f64 0x3FE8000000000000

-- DECAY_WEIGHT, 0.9
abbrev pub decay_weight : Float
decay_weight = f64 0x3FECCCCCCCCCCCCD

-- 10
abbrev pub ten : Float
ten = f64 0x4024000000000000

unfoldable pub lerp : Float → Float → Float → Float
lerp start end amount = start ⊕ (end ⊖ start) ⊗ amount

-- (i as f32 / count as f32).clamp(0.0, 1.0); widening it to f64 changes nothing
unfoldable pub clamped : ℕ → ℕ → Float
clamped i count = clamp_of (Ieee.div binary32 (of_int binary32 (pos i)) (of_int binary32 (pos count))) zero64 one64

-- what the peak at place i of the largest `count` is multiplied by
unfoldable pub reduction : ℕ → ℕ → Float
reduction i count = lerp baseline one64 (log10_of (lerp one64 ten (clamped i count)))

-- the peaks above zero, in their order
unfoldable pub positives : List Float → List Float
positives [] = []
positives (x ∷ xs) = cond (Ieee.lt zero64 x) (x ∷ positives xs) (positives xs)

-- the first `count` peaks reduced; i is the place of the head
unfoldable pub reduced : ℕ → ℕ → List Float → List Float
reduced count i [] = []
reduced count i (x ∷ xs) = cond (ltb i count) (x ⊗ reduction i count) x ∷ reduced count (suc i) xs

-- each peak times its weight, added to `difficulty`
unfoldable pub weighted : Float → Float → List Float → Float
weighted difficulty weight [] = difficulty
weighted difficulty weight (x ∷ xs) = weighted (difficulty ⊕ x ⊗ weight) (weight ⊗ decay_weight) xs

-- of peaks above zero
abbrev pub positive_value : ℕ → List Float → Float
positive_value count peaks = weighted zero64 one64 (sort_desc (reduced count 0 (sort_desc peaks)))

unfoldable pub difficulty_value : ℕ → List Float → Float
difficulty_value count peaks = positive_value count (positives peaks)

-- all peaks in list order, added to `sum`
unfoldable pub sum_from : Float → List Float → Float
sum_from sum [] = sum
sum_from sum (x ∷ xs) = sum_from (sum ⊕ x) xs

-- "ten reduced sections (speed five)"
abbrev pub reduced_sections : ℕ
reduced_sections = 10

abbrev pub speed_reduced_sections : ℕ
speed_reduced_sections = 5

unfoldable pub difficulty_of : Skill → List Float → Float
difficulty_of Aim peaks = difficulty_value reduced_sections peaks
difficulty_of AimNoSliders peaks = difficulty_value reduced_sections peaks
difficulty_of Speed peaks = difficulty_value speed_reduced_sections peaks
difficulty_of Flashlight peaks = sum_from zero64 peaks
