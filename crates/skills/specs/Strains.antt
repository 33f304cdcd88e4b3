-- Document 01, "Strains and totals", with skills/aim.rs, speed.rs, flashlight.rs and any/difficulty/skills.rs: a strain is the number that joins by max at its
-- place in the section walk, and the totals come from the walk's peaks. Definitions only.
use Rattle.std.specs.Prelude.{List, [], ◌∷◌, ◌++◌, cond, ℕ, zero, suc, ◌-◌, Float, length, get_or}
use Rattle.std.specs.Float.Ieee as Ieee
use Rattle.std.specs.Float.{nan, binary64}
use Rattle.num_floats.specs.Numbers.{f64, ◌⊕◌, ◌⊖◌, ◌⊗◌, ◌⊘◌, zero64}
use Rattle.num_floats.specs.Compare.{max_of}
use Rattle.num_whole.specs.Whole.{ceil_of}
use Rattle.num_elementary.specs.Power.{power_of}
use Rattle.skills.specs.declared.Skill.{Skill}
use Rattle.skills.specs.declared.Skill.TheVariants.{Aim, AimNoSliders, Speed, Flashlight}
use Rattle.skills.specs.declared.Skills.{Skills}
use Rattle.skills.specs.Value.{difficulty_of}

-- ---- The skills' constants

-- STRAIN_DECAY_BASE of aim.rs and flashlight.rs, 0.15
abbrev pub decay_base : Float
decay_base = f64 0x3FC3333333333333

-- STRAIN_DECAY_BASE of speed.rs, 0.3
abbrev pub speed_decay_base : Float
speed_decay_base = f64 0x3FD3333333333333

-- SKILL_MULTIPLIER of aim.rs, 26
abbrev pub aim_multiplier : Float
aim_multiplier = f64 0x403A000000000000

-- SKILL_MULTIPLIER of speed.rs, 1.47
abbrev pub speed_multiplier : Float
speed_multiplier = f64 0x3FF7851EB851EB85

-- SKILL_MULTIPLIER of flashlight.rs, 0.05512
abbrev pub flashlight_multiplier : Float
flashlight_multiplier = f64 0x3FAC38B04AB606B8

-- "Adjusted time is at least 25"
abbrev pub least_delta : Float
least_delta = f64 0x4039000000000000

-- 1000, the milliseconds of a second
abbrev pub thousand : Float
thousand = f64 0x408F400000000000

-- SECTION_LENGTH, 400
abbrev pub section_length : Float
section_length = f64 0x4079000000000000

unfoldable pub base : Skill → Float
base Aim = decay_base
base AimNoSliders = decay_base
base Speed = speed_decay_base
base Flashlight = decay_base

unfoldable pub multiplier : Skill → Float
multiplier Aim = aim_multiplier
multiplier AimNoSliders = aim_multiplier
multiplier Speed = speed_multiplier
multiplier Flashlight = flashlight_multiplier

-- ---- A place's five values: aim, aim without sliders, speed, rhythm, flashlight

-- the one that a skill adds
unfoldable pub column : Skill → ℕ
column Aim = 0
column AimNoSliders = 1
column Speed = 2
column Flashlight = 4

abbrev pub value_for : Skill → List Float → Float
value_for k v = get_or v (column k) nan

abbrev pub rhythm_of : List Float → Float
rhythm_of v = get_or v 3 nan

-- ---- Strains

-- any/difficulty/skills.rs, strain_decay
unfoldable pub strain_decay : Float → Float → Float
strain_decay ms base = power_of base (ms ⊘ thousand)

-- speed decays by the adjusted delta time, the others by the delta time
unfoldable pub elapsed : Skill → Float → Float
elapsed Aim delta = delta
elapsed AimNoSliders delta = delta
elapsed Speed delta = max_of delta least_delta
elapsed Flashlight delta = delta

-- strain_value_at: the decaying strain at a place with these values, `delta` after a place where it was `strain`
unfoldable pub strain_next : Skill → Float → Float → List Float → Float
strain_next k strain delta v = strain ⊗ strain_decay (elapsed k delta) (base k) ⊕ value_for k v ⊗ multiplier k

-- what strain_value_at returns: speed's decaying strain times the rhythm, the others' alone
unfoldable pub joined : Skill → Float → List Float → Float
joined Aim strain v = strain
joined AimNoSliders strain v = strain
joined Speed strain v = strain ⊗ rhythm_of v
joined Flashlight strain v = strain

-- calculate_initial_strain: the strain with which a section starts at `time`, after a place with this start and this strain
unfoldable pub initial_strain : Skill → Float → Float → Float → Float
initial_strain k strain start time = strain ⊗ strain_decay (time ⊖ start) (base k)

-- ---- The section walk, over start times and strains by place

-- Sections that are closed before the last, at most. It makes the walk a total definition: on a chart that opens the walk never stops for it (`walk_settles`)
abbrev pub room : ℕ
room = 8191

-- the peaks of the closed sections, the open section's peak, and its end
pub record Walk : Type 0 where
  pub peaks : List Float
  pub peak : Float
  pub end : Float

-- "at place 1 the end is ceil(start/400) × 400"
abbrev pub first_end : Float → Float
first_end start = ceil_of binary64 (start ⊘ section_length) ⊗ section_length

-- "close the peak, open the next at the initial strain for that end, add 400"
unfoldable pub close_one : (Float → Float) → Walk → Walk
close_one initial w = record {
  peaks = w.peaks ++ (w.peak ∷ []);
  peak = initial w.end;
  end = w.end ⊕ section_length;
}

-- "while start > end", n times at most
unfoldable pub close_to : ℕ → (Float → Float) → Float → Walk → Walk
close_to zero initial start w = w
close_to (suc n) initial start w = let r : Walk = close_to n initial start (close_one initial w) in cond (Ieee.lt w.end start) r w

-- "Then the strain joins by max"
abbrev pub join : Float → Walk → Walk
join strain w = record { peaks = w.peaks; peak = max_of w.peak strain; end = w.end }

-- "the last is closed at the end"
abbrev pub closed : Walk → List Float
closed w = w.peaks ++ (w.peak ∷ [])

-- start times and strains by place, both 0 at place 0
module _ (k : Skill) (starts strains : ℕ → Float) where
  -- the sections that end before place j closed
  unfoldable pub reached : ℕ → Walk → Walk
  reached j w = close_to (room - length w.peaks) (initial_strain k (strains (j - 1)) (starts (j - 1))) (starts j) w

  -- after places 1 to n; "The first peak starts at 0"
  unfoldable pub walk : ℕ → Walk
  walk zero = record { peaks = []; peak = zero64; end = first_end (starts 1) }
  walk (suc n) = join (strains (suc n)) (reached (suc n) (walk n))

  unfoldable pub peaks_to : ℕ → List Float
  peaks_to n = closed (walk n)

-- ---- Strains and totals, from the delta times and the values by place

module _ (deltas : ℕ → Float) (vs : ℕ → List Float) where
  -- the decaying strain
  unfoldable pub current : Skill → ℕ → Float
  current k zero = zero64
  current k (suc j) = strain_next k (current k j) (deltas (suc j)) (vs (suc j))

  -- the strain: the number that joins by max in the walk
  unfoldable pub strain_at : Skill → ℕ → Float
  strain_at k zero = zero64
  strain_at k (suc j) = joined k (current k (suc j)) (vs (suc j))

  unfoldable pub strains : ℕ → Skills
  strains j = record { aim = strain_at Aim j; aim_no_sliders = strain_at AimNoSliders j; speed = strain_at Speed j; flashlight = strain_at Flashlight j }

-- and from the start times, 0 at place 0
module _ (starts deltas : ℕ → Float) (vs : ℕ → List Float) where
  -- the total over places 1 to n - 1; "N of 0 or 1 gives totals of zero"
  unfoldable pub total_to : Skill → ℕ → Float
  total_to k zero = zero64
  total_to k (suc zero) = zero64
  total_to k (suc (suc n)) = difficulty_of k (peaks_to k starts (strain_at deltas vs k) (suc n))

  unfoldable pub total : ℕ → Skills
  total n = record { aim = total_to Aim n; aim_no_sliders = total_to AimNoSliders n; speed = total_to Speed n; flashlight = total_to Flashlight n }
