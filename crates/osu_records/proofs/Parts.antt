-- A part of the record table, as an evaluator is lent it, holds what the whole table does at its places; and the view from a place within it is the same. Assumes nothing.
use Prim.Native.Nat.{ℕ, ◌+◌, ◌*◌, ◌-◌, ◌≤◌, ◌<◌, min}
use native.Mathlib.Omega.{arith}
use mathlib.Core.Path.{◌≡◌, refl, ap, ◌∙◌}
use mathlib.Core.Bool.{Bool, true, false}
use mathlib.Core.List.{List}
use lib.Dec.{ltb}
use lib.ListN.{take, drop}
use lib.Ieee.{Float}
use borrow.Author.Tests.{lt-ltb, le-ltb, ltb-true, ltb-false}
use Rattle.osu_object.specs.Osu.{Object}
use Rattle.osu_difficulty_object.specs.declared.OsuDifficultyObject.{OsuDifficultyObject}
use Rattle.osu_records.specs.declared.Part.{Part}
use Rattle.osu_records.specs.Rows.{record_at}
use Rattle.osu_records.specs.Part.{first_place, last_place, part_at}
use Rattle.osu_records.specs.Sight.{sight_of, view_of}
use Rattle.osu_records.proofs.Laws.{record_part}

-- two tests agree where what they test does
pub ltb_iff : (x y u v : ℕ) → (u < v → x < y) → (v ≤ u → y ≤ x) → ltb x y ≡ ltb u v
ltb_iff x y u v f g = go (ltb u v) refl
  where
    go : (b : Bool) → ltb u v ≡ b → ltb x y ≡ b
    go true e = lt-ltb x y (f (ltb-true u v e))
    go false e = le-ltb x y (g (ltb-false u v e))

-- laws of numbers on their own, with few facts in reach of `omega`
place_in : (a p l : ℕ) → a ≤ p → p ≤ l → a + (p - a) < l + 1
place_in a p l h b = omega arith

place_back : (a p : ℕ) → a ≤ p → a + (p - a) ≡ p
place_back a p h = omega arith

back_from : (a j k : ℕ) → a ≡ first_place j → 1 ≤ j → k ≤ min (j - 1) 32 → a ≤ j - k
back_from a j k f one b = omega arith

back_in : (l j n k : ℕ) → l ≡ last_place j n → j < n → j - k ≤ l
back_in l j n k e h = omega arith

next_from : (a j : ℕ) → a ≡ first_place j → 1 ≤ j → a ≤ j + 1
next_from a j f one = omega arith

within : (j c k : ℕ) → c ≤ 32 → k ≤ min (j - 1) c → k ≤ min (j - 1) 32
within j c k h b = omega arith

-- the numbers of a part of a table
abbrev pub part_in : List Float → Part → List Float
part_in t part = take (16 * (part.last + 1) - 16 * part.first) (drop (16 * part.first) t)

part_at_lem : (t : List Float) (part : Part) (p : ℕ) → part.first ≤ p → p ≤ part.last → part_at (part_in t part) part p ≡ record_at t p
part_at_lem t part p h l = record_part t part.first (part.last + 1) (p - part.first) (place_in part.first p part.last h l) ∙ ap (record_at t) (place_back part.first p h)

-- ---- of the part lent at place j of n

module _ (t : List Float) (j n : ℕ) (part : Part) (one : 1 ≤ j) (inside : j < n) (f : part.first ≡ first_place j) (l : part.last ≡ last_place j n) where
  pub record_back : (k : ℕ) → k ≤ min (j - 1) 32 → part_at (part_in t part) part (j - k) ≡ record_at t (j - k)
  record_back k b = part_at_lem t part (j - k) (back_from part.first j k f one b) (back_in part.last j n k l inside)

  pub next_part : j < part.last → part_at (part_in t part) part (j + 1) ≡ record_at t (j + 1)
  next_part h = part_at_lem t part (j + 1) (next_from part.first j f one) (omega arith)

  pub view_part : (os : ℕ → Object) (c k : ℕ) → c ≤ 32 → k ≤ min (j - 1) c → view_of os (part_at (part_in t part) part) j k ≡ view_of os (record_at t) j k
  view_part os c k h b = ap (λ (r : OsuDifficultyObject). sight_of r (os (j - k))) (record_back k (within j c k h b))
