-- What the walk's code holds of one skill from place to place, as the definitions have it. Definitions only.
use Rattle.std.specs.Prelude.{◌≡◌, List, ℕ, ◌+◌, ◌≤◌, take, Float}
use Rattle.num_floats.specs.Numbers.{◌⊕◌, ◌⊗◌, zero64}
use Rattle.skills.specs.declared.Sections.{Sections}
use Rattle.skills.specs.declared.Skill.{Skill}
use Rattle.skills.specs.declared.Strand.{Strand}
use Rattle.skills.specs.Strains.{room, value_for, multiplier, joined, join}
use Rattle.skills.specs.Shown.{shown, closed}

-- `strain_next` of what is left of the strain
abbrev pub strain_by : Skill → Float → Float → List Float → Float
strain_by k strain decay v = strain ⊗ decay ⊕ value_for k v ⊗ multiplier k

abbrev pub started_with : Sections → Strand
started_with s = record { sections = s; current = zero64; strain = zero64 }

-- a place with the values v, `start` as its start and `last` as that of the place before, from a slice p and `from` to p' and r
pub record Advanced (k : Skill) (decay last start : Float) (v : List Float) (p : List Float) (from : Strand) (p' : List Float) (r : Strand) : Type 0 where
  pub within : r.sections.count ≤ room
  pub current_is : r.current ≡ strain_by k from.current decay v
  pub strain_is : r.strain ≡ joined k r.current v
  pub shows : shown p' r.sections ≡ join r.strain (closed p from.sections k from.strain last start)

-- the first n numbers of a slice are these peaks
abbrev pub PeaksIn : List Float → ℕ → List Float → Type 0
PeaksIn l n peaks = (n ≤ room + 1) × (take n l ≡ peaks)
