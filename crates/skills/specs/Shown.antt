-- What the walk's code keeps in a slice and in `Sections`, as the definitions have it.
use Rattle.std.specs.Prelude.{List, ◌-◌, take, Float}
use Rattle.num_floats.specs.Numbers.{zero64}
use Rattle.num_floats.specs.Compare.{max_of}
use Rattle.skills.specs.declared.Sections.{Sections}
use Rattle.skills.specs.declared.Skill.{Skill}
use Rattle.skills.specs.Strains.{Walk, room, first_end, initial_strain, close_to}

abbrev pub shown : List Float → Sections → Walk
shown l s = record { peaks = take s.count l; peak = s.peak; end = s.end }

-- before place 1, which starts at `start`
abbrev pub opened : Float → Sections
opened start = record { count = 0; peak = zero64; end = first_end start }

-- the sections once all that end before `start` are closed, after a place with the strain and the start `last`
abbrev pub closed : List Float → Sections → Skill → Float → Float → Float → Walk
closed l s skill strain last start = close_to (room - s.count) (initial_strain skill strain last) start (shown l s)

-- `join` of what is shown
abbrev pub joined : Sections → Float → Sections
joined s strain = record { count = s.count; peak = max_of s.peak strain; end = s.end }
