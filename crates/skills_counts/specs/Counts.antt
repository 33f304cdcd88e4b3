-- The counts from start and delta times, values and kinds by place: osu/difficulty/mod.rs, `eval`. Definitions only.
use Rattle.std.specs.Prelude.{ℕ, zero, suc, ◌-◌, Bool, true, cond, List, [], ◌∷◌, Float}
use Rattle.skills.specs.declared.Skill.{Skill}
use Rattle.skills.specs.declared.Skill.TheVariants.{Aim, AimNoSliders, Speed}
use Rattle.skills.specs.declared.Skills.{Skills}
use Rattle.skills.specs.Strains.{strain_at, total}
use Rattle.skills_counts.specs.declared.ObjectCounts.{ObjectCounts}
use Rattle.skills_counts.specs.Lists.{count_top_weighted_strains, count_top_weighted_sliders, get_difficult_sliders, relevant_note_count}

-- the strains of `count` places from j on, as far as their objects are kept
unfoldable pub list_from : (ℕ → Bool) → (ℕ → Float) → ℕ → ℕ → List Float
list_from keeps strains j zero = []
list_from keeps strains j (suc count) =
    let rest = list_from keeps strains (suc j) count in
    cond (keeps j) (strains j ∷ rest) rest

-- all objects
abbrev pub every : ℕ → Bool
every j = true

module _ (deltas : ℕ → Float) (sliders : ℕ → Bool) (vs : ℕ → List Float) (n : ℕ) where
  -- object_strains: the strains of places 1 to n - 1
  abbrev pub object_strains : Skill → List Float
  object_strains k = list_from every (strain_at deltas vs k) 1 (n - 1)

  -- slider_strains: those of the sliders
  abbrev pub slider_strains : Skill → List Float
  slider_strains k = list_from sliders (strain_at deltas vs k) 1 (n - 1)

  -- by the difficulty values of the skills, which are the totals
  unfoldable pub counts_by : Skills → ObjectCounts
  counts_by by = record {
    aim_difficult_strain_count = count_top_weighted_strains (object_strains Aim) by.aim;
    aim_no_sliders_difficult_strain_count = count_top_weighted_strains (object_strains AimNoSliders) by.aim_no_sliders;
    speed_difficult_strain_count = count_top_weighted_strains (object_strains Speed) by.speed;
    aim_no_sliders_top_weighted_slider_count = count_top_weighted_sliders (slider_strains AimNoSliders) by.aim_no_sliders;
    speed_top_weighted_slider_count = count_top_weighted_sliders (slider_strains Speed) by.speed;
    aim_difficult_slider_count = get_difficult_sliders (slider_strains Aim);
    speed_note_count = relevant_note_count (object_strains Speed);
  }

module _ (starts deltas : ℕ → Float) (sliders : ℕ → Bool) (vs : ℕ → List Float) where
  -- over places 1 to n - 1
  unfoldable pub counts : ℕ → ObjectCounts
  counts n = counts_by deltas sliders vs n (total starts deltas vs n)
