-- Document 01, "The shape of some places": the part of the record table from 32 places before to one after, within entries 1 to n - 1. Definitions only.
use Rattle.std.specs.Prelude.{ℕ, ◌+◌, ◌*◌, ◌-◌, min, max, ◌≤◌, List, length, Float}
use Rattle.osu_difficulty_object.specs.declared.OsuDifficultyObject.{OsuDifficultyObject}
use Rattle.osu_records.specs.Rows.{record_at}
use Rattle.osu_records.specs.declared.Part.{Part}

-- its first place
abbrev pub first_place : ℕ → ℕ
first_place j = max 1 (j - 32)

-- its last: the last that `next` reaches from place j of n
abbrev pub last_place : ℕ → ℕ → ℕ
last_place j n = min (j + 1) (n - 1)

-- the record of a place, in a part
abbrev pub part_at : List Float → Part → ℕ → OsuDifficultyObject
part_at t part p = record_at t (p - part.first)

-- t holds the record of place p, which is in the part
pub record Within (t : List Float) (part : Part) (p : ℕ) : Type 0 where
  pub from : part.first ≤ p
  pub room : 16 * (p - part.first) + 16 ≤ length t

-- t holds the part's records, of which that of place j is one; no place before first counts
pub record Covers (t : List Float) (part : Part) (j : ℕ) : Type 0 where
  pub some : 1 ≤ part.first
  pub from : part.first ≤ j
  pub far : part.first ≤ first_place j
  pub to : j ≤ part.last
  pub few : part.last ≤ 16384
  pub room : 16 * (part.last + 1 - part.first) ≤ length t
