-- Laws of the table: what an entry holds after a store. Assumes nothing.
use Prim.Native.Nat.{ℕ, suc, ◌+◌, ◌*◌, ◌-◌, ◌≤◌, ◌<◌}
use native.Mathlib.Nat.{add-zero, add-suc}
use native.Mathlib.Omega.{arith}
use mathlib.Core.Path.{◌≡◌, refl, sym, ap, ◌∙◌}
use mathlib.Core.Bool.{Bool, true, false}
use mathlib.Core.List.{List, [], ◌∷◌}
use lib.ListN.{length, get_or, set, take, drop}
use lib.Seq.{sets, get_or-take, get_or-drop}
use lib.Ieee.{Float, nan, ne, eq, of_bits, binary32}
use Rattle.num_whole.specs.Narrow.{narrow}
use Rattle.num_tables.specs.Parts.{part, row}
use Rattle.num_tables.proofs.Rows.{sets_put}
use Rattle.osu_difficulty_object.specs.declared.OsuDifficultyObject.{OsuDifficultyObject}
use Rattle.osu_records.specs.Rows.{number_of, flag_of, record_from, row_of, record_at, put_record}

-- ---- a record is what its row stands for

pub row_length : (r : OsuDifficultyObject) → length (row_of r) ≡ 16
unfolding row_of
row_length r = refl

-- a record depends on its sixteen numbers alone
pub record_cong : (f g : ℕ → Float) → ((k : ℕ) → k < 16 → f k ≡ g k) → record_from f ≡ record_from g
unfolding record_from
record_cong f g h =
    rw (
      h 0 (omega arith),
      h 1 (omega arith),
      h 2 (omega arith),
      h 3 (omega arith),
      h 4 (omega arith),
      h 5 (omega arith),
      h 6 (omega arith),
      h 7 (omega arith),
      h 8 (omega arith),
      h 9 (omega arith),
      h 10 (omega arith),
      h 11 (omega arith),
      h 12 (omega arith),
      h 13 (omega arith),
      h 14 (omega arith),
      h 15 (omega arith),
    )

flag_number : (b : Bool) → flag_of (number_of b) ≡ b
unfolding ne eq of_bits
flag_number true = refl
flag_number false = refl

-- the two f32 fields of a record are f32
pub record InF32 (r : OsuDifficultyObject) : Type 0 where
  pub x : narrow binary32 r.lazy_end_x ≡ r.lazy_end_x
  pub y : narrow binary32 r.lazy_end_y ≡ r.lazy_end_y

pub record_of_row : (r : OsuDifficultyObject) → InF32 r → record_from (λ k. get_or (row_of r) k nan) ≡ r
unfolding record_from row_of
record_of_row r h = simp (h.x, h.y, flag_number)

-- ---- an entry is read from its row

pub record_row : (t : List Float) (j : ℕ) → record_at t j ≡ record_from (λ k. get_or (row 16 t j) k nan)
unfolding row part
record_row t j =
    record_cong (λ k. get_or t (16 * j + k) nan) (λ k. get_or (take 16 (drop (16 * j) t)) k nan)
    (λ k h. sym (get_or-take 16 (drop (16 * j) t) k nan h ∙ get_or-drop (16 * j) t k nan))

-- entries with one row are one record
pub record_same : (t u : List Float) (j i : ℕ) → row 16 t j ≡ row 16 u i → record_at t j ≡ record_at u i
record_same t u j i e = record_row t j ∙ ap (λ (v : List Float). record_from (λ k. get_or v k nan)) e ∙ sym (record_row u i)

pub record_is : (t : List Float) (j : ℕ) (r : OsuDifficultyObject) → InF32 r → row 16 t j ≡ row_of r → record_at t j ≡ r
record_is t j r h e = record_row t j ∙ ap (λ (v : List Float). record_from (λ k. get_or v k nan)) e ∙ record_of_row r h

-- xs stored one by one from place base + k on, as the code has it
abbrev pub writes : List Float → ℕ → ℕ → List Float → List Float
writes t base k [] = t
writes t base k (x ∷ xs) = writes (set t (base + k) x) base (suc k) xs

writes_sets : (xs t : List Float) (base k : ℕ) → writes t base k xs ≡ sets t (base + k) xs
writes_sets [] t base k = refl
writes_sets (x ∷ xs) t base k =
    writes_sets xs (set t (base + k) x) base (suc k) ∙ ap (λ (i : ℕ). sets (set t (base + k) x) i xs) (add-suc base k)

pub writes_put : (t : List Float) (j : ℕ) (r : OsuDifficultyObject) → 16 * j + 16 ≤ length t → writes t (16 * j) 0 (row_of r) ≡ put_record t j r
writes_put t j r l =
    writes_sets (row_of r) t (16 * j) 0
    ∙ ap (λ (i : ℕ). sets t i (row_of r)) (add-zero (16 * j))
    ∙ sets_put (row_of r) t (16 * j) (rw (row_length r) l)

-- ---- an entry of a part of a table, from entry a to before entry e

part_place : (a i k : ℕ) → 16 * a + (16 * i + k) ≡ 16 * (a + i) + k
part_place a i k = omega arith

in_part : (a e i k : ℕ) → a + i < e → k < 16 → 16 * i + k < 16 * e - 16 * a
in_part a e i k h l = omega arith

pub record_part : (t : List Float) (a e i : ℕ) → a + i < e → record_at (take (16 * e - 16 * a) (drop (16 * a) t)) i ≡ record_at t (a + i)
record_part t a e i h =
    record_cong (λ k. get_or (take (16 * e - 16 * a) (drop (16 * a) t)) (16 * i + k) nan) (λ k. get_or t (16 * (a + i) + k) nan)
    (λ k l. get_or-take (16 * e - 16 * a) (drop (16 * a) t) (16 * i + k) nan (in_part a e i k h l)
    ∙ get_or-drop (16 * a) t (16 * i + k) nan
    ∙ ap (λ (m : ℕ). get_or t m nan) (part_place a i k))
