-- The search for an island; and a small number as a float.
use Prim.Native.Nat.{ℕ, zero, suc, ◌+◌, ◌^◌, ◌≤◌, ◌<◌}
use native.Mathlib.Omega.{arith}
use native.Mathlib.Nat.{zero-add}
use native.Mathlib.Numerals.{add-one}
use mathlib.Core.Path.{◌≡◌, refl, ◌∙◌}
use mathlib.Core.Bool.{Bool, true, false, cond, not}
use mathlib.Core.List.{List}
use borrow.Author.Tests.{lt-ltb, le-ltb, ltb-true, ltb-false}
use lib.Dec.{T, ltb, le→leb}
use lib.ListN.{get_or, length, take, drop}
use lib.Seq.{drop-cons, length-take-le}
use lib.IntN.{pos}
use lib.Ieee.{binary64, in_float}
use Rattle.std.specs.List.{position_or_len, position}
use Rattle.std.specs.Prelude.{Some, None}
use Rattle.eval_rhythm.specs.declared.island.RhythmIsland.{RhythmIsland}
use Rattle.eval_rhythm.specs.declared.island.IslandCount.{IslandCount}
use Rattle.eval_rhythm.specs.Island.{same_of, default_of}
use Rattle.eval_rhythm.specs.Counts.{find_from, place_of, no_count}
use Rattle.eval_rhythm.specs.Comparisons.{compared_of}

-- an entry's island equals s
abbrev pub is : RhythmIsland → IslandCount → Bool
is s e = same_of e.island s

-- the search goes over the entries from place i on as over a list
find_at : (es : List IslandCount) (s : RhythmIsland) (left i : ℕ) → i + left ≤ length es
    → find_from es left i s ≡ i + position_or_len (is s) (take left (drop i es))
unfolding find_from
find_at es s zero i h = omega arith
find_at es s (suc left) i h =
    rw (add-one, drop-cons es i no_count (omega arith)) (go (same_of (get_or es i no_count).island s) _ (find_at es s left (suc i) (omega arith)))
  where
    go : (b : Bool) (k : ℕ) → find_from es left (suc i) s ≡ suc i + k → cond b i (find_from es left (suc i) s) ≡ i + cond (not b) (1 + k) 0
    go true k e = omega arith
    go false k e = omega (arith, e)

find_is : (es : List IslandCount) (n : ℕ) (s : RhythmIsland) → n ≤ length es → find_from es n 0 s ≡ position_or_len (is s) (take n es)
find_is es n s h = find_at es s n 0 (omega arith) ∙ zero-add _

some_at : (k m at : ℕ) → cond (ltb k m) (Some k) None ≡ Some at → (k ≡ at) × (k < m)
some_at k m at h = go (ltb k m) refl h
  where
    go : (b : Bool) → ltb k m ≡ b → cond b (Some k) None ≡ Some at → (k ≡ at) × (k < m)
    go true e h = (cc, ltb-true k m e)
    go false e h = cc

none_at : (k m : ℕ) → cond (ltb k m) (Some k) None ≡ None → m ≤ k
none_at k m h = go (ltb k m) refl h
  where
    go : (b : Bool) → ltb k m ≡ b → cond b (Some k) None ≡ None → m ≤ k
    go true e h = cc
    go false e h = ltb-false k m e

-- what the first match of the first n entries says of the search
module _ (es : List IslandCount) (n : ℕ) (s : RhythmIsland) (long : n ≤ length es) where
  few : length (take n es) ≡ n
  few = length-take-le n es long

  module _ (at : ℕ) (found : position (is s) (take n es) ≡ Some at) where
    ends : (find_from es n 0 s ≡ at) × (at < n)
    ends = let p = some_at _ _ at found in (find_is es n s long ∙ p.0, omega (arith, p.0, p.1, few))

    pub place_default : default_of (get_or es at no_count).island ≡ true → place_of es n s ≡ n
    unfolding place_of
    place_default d = rw (ends.0, lt-ltb at n ends.1, d)

    pub place_kept : default_of (get_or es at no_count).island ≡ false → place_of es n s ≡ at
    unfolding place_of
    place_kept d = rw (ends.0, lt-ltb at n ends.1, d)

    pub compared_found : compared_of es n s ≡ at + 1
    unfolding compared_of
    compared_found = rw (ends.0, lt-ltb at n ends.1)

    pub is_below : ltb at n ≡ true
    is_below = lt-ltb at n ends.1

  module _ (lost : position (is s) (take n es) ≡ None) where
    past : ltb (find_from es n 0 s) n ≡ false
    past = let p : length (take n es) ≤ position_or_len (is s) (take n es) = none_at _ _ lost in le-ltb (find_from es n 0 s) n (omega (arith, p, few, find_is es n s long))

    pub place_lost : place_of es n s ≡ n
    unfolding place_of
    place_lost = rw past

    pub compared_lost : compared_of es n s ≡ n
    unfolding compared_of
    compared_lost = rw past

pub small_float : (n : ℕ) → n ≤ 1000 → T (in_float binary64 (pos n))
unfolding in_float
small_float n h = le→leb n (2 ^ 53) (omega arith)
