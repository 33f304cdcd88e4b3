-- `island_counts` of evaluators/rhythm.rs. Document 01, "Where the Rust's forms give way": "`Vec<IslandCount>` becomes a fixed array of 32 with a count".
use Rattle.std.specs.Prelude.{ℕ, zero, suc, ◌+◌, ◌≤◌, ◌≡◌, Bool, cond, List, ltb, get_or, pos, Float}
use Rattle.std.specs.Float.{nan}
use Rattle.eval_rhythm.specs.Island.{IslandOk, new_island, default_of, same_of}
use Rattle.eval_rhythm.specs.declared.island.RhythmIsland.{RhythmIsland}
use Rattle.eval_rhythm.specs.declared.island.IslandCount.{IslandCount}

-- what is read past the end
abbrev pub no_count : IslandCount
no_count = record { island = record { delta_difference_eps = nan; delta = pos 0; delta_count = pos 0 }; count = 0 }

-- an island of no delta that was not met yet
abbrev pub unmet_of : Float → IslandCount
unmet_of eps = record { island = new_island eps; count = 0 }

-- the first of the next `left` entries from place i on whose island equals s; the place past them where there is none
unfoldable pub find_from : List IslandCount → ℕ → ℕ → RhythmIsland → ℕ
find_from es zero i s = i
find_from es (suc left) i s = cond (same_of (get_or es i no_count).island s) i (find_from es left (i + 1) s)

-- the search for s among the first n entries ends at place i, where found stands
abbrev pub EndsAt : List IslandCount → ℕ → RhythmIsland → ℕ → IslandCount → Type 0
EndsAt es n s i found = (i ≡ find_from es n 0 s) × (found ≡ get_or es i no_count)

-- `find`, then `filter`: of the first n entries the place of the one whose island equals s and is not the default, n where there is none
unfoldable pub place_of : List IslandCount → ℕ → RhythmIsland → ℕ
place_of es n s =
    let at = find_from es n 0 s in
    cond (ltb at n) (cond (default_of (get_or es at no_count).island) n at) n

unfoldable pub bumped_of : IslandCount → Bool → IslandCount
bumped_of e more = cond more (record { island = e.island; count = e.count + 1 }) e

-- the entry to stand at that place: the one there, once more where the island goes after an equal one; or a new one
unfoldable pub entry_of : List IslandCount → ℕ → ℕ → RhythmIsland → RhythmIsland → IslandCount
entry_of es n at s prev = cond (ltb at n) (bumped_of (get_or es at no_count) (same_of prev s)) (record { island = s; count = 1 })

pub record CountOk (m : ℕ) (e : IslandCount) : Type 0 where
  pub island_ok : IslandOk m e.island
  pub count-le : e.count ≤ m
