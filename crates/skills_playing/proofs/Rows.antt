-- A row of four numbers, stored one by one. Assumes nothing.
use Prim.Native.Nat.{ℕ, ◌≤◌, ◌+◌, ◌*◌}
use native.Mathlib.Numerals.{add-one, add-two, add-three}
use mathlib.Core.Path.{◌≡◌}
use mathlib.Core.List.{List}
use lib.ListN.{length, set}
use lib.Ieee.{Float}
use Rattle.num_tables.specs.Parts.{put}
use Rattle.num_tables.proofs.Rows.{sets_put}
use Rattle.skills.specs.declared.Skills.{Skills}
use Rattle.skills_playing.specs.Playing.{total_row}

pub sets_row : (l : List Float) (m : ℕ) (t : Skills) → 4 * m + 4 ≤ length l
    → set (set (set (set l (4 * m) t.aim) (4 * m + 1) t.aim_no_sliders) (4 * m + 2) t.speed) (4 * m + 3) t.flashlight ≡ put (4 * m) (total_row t) l
sets_row l m t h = simp (add-one, add-two, add-three) (sets_put (total_row t) l (4 * m) h)

pub skills_same : (t u : Skills) → t.aim ≡ u.aim → t.aim_no_sliders ≡ u.aim_no_sliders → t.speed ≡ u.speed → t.flashlight ≡ u.flashlight → t ≡ u
skills_same t u a b c d = λ i. record { aim = a i; aim_no_sliders = b i; speed = c i; flashlight = d i }
