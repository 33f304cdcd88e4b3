-- The last tick, and one turn of the walk over a slider's entries. Assumes nothing.
use Prim.Native.Nat.{ℕ, zero, suc, ◌+◌, ◌-◌, ◌<◌}
use mathlib.Core.Path.{◌≡◌, refl, sym}
use mathlib.Core.List.{List}
use mathlib.Core.Bool.{Bool, true, false}
use borrow.Author.Tests.{eq-eqb, ne_eqb, eqb-true, eqb-false}
use native.Mathlib.Omega.{arith}
use lib.Dec.{eqb}
use lib.ListN.{length}
use lib.Ieee as Ieee
use lib.Ieee.{Float}
use Rattle.chart_entries.specs.declared.Nested.{Nested}
use Rattle.osu_pos.specs.declared.Pos.{Pos}
use Rattle.osu_object.specs.Osu.{nested_in}
use Rattle.osu_difficulty_object.specs.Cursor.{last_tick, moved_by, tracking_of, order_of, step_of, run_of}
use Rattle.osu_difficulty_object.specs.declared.cursor.CursorState.{CursorState}

module _ (ns : List Nested) (stack : Pos) (factor : Float) (moved n : ℕ) (len : length ns ≡ n) where
  run_one : (left : ℕ) (s : CursorState) → 0 < left
      → run_of ns stack factor moved left s
      ≡ run_of ns stack factor moved (left - 1) (step_of s (nested_in ns (order_of moved n (n - left))) stack factor (eqb left 1))
  unfolding run_of
  run_one zero s h = absurd (omega arith)
  run_one (suc k) s h = let z : suc k - 1 ≡ k = omega arith in rw (z, len)

  last_turn : (k : ℕ) → k < n → eqb (n - k) 1 ≡ eqb (k + 1) n
  last_turn k h = go (eqb (k + 1) n) refl
    where
      go : (b : Bool) → eqb (k + 1) n ≡ b → eqb (n - k) 1 ≡ b
      go true e = let z : k + 1 ≡ n = eqb-true (k + 1) n e in eq-eqb (n - k) 1 (omega arith)
      go false e = ne_eqb (n - k) 1 (λ z. eqb-false (k + 1) n e (omega arith))

  pub run_turn : (k i : ℕ) (e : Nested) (s t : CursorState) → k < n → i ≡ order_of moved n k → e ≡ nested_in ns i
      → t ≡ step_of s e stack factor (eqb (k + 1) n)
      → run_of ns stack factor moved (n - (k + 1)) t ≡ run_of ns stack factor moved (n - k) s
  run_turn k i e s t h f g w =
      let x : n - (n - k) ≡ k = omega arith in
      let y : n - k - 1 ≡ n - (k + 1) = omega arith in
      let one = run_one (n - k) s (omega arith) in
      rw (w, g, f) (sym (rw (x, y, last_turn k h) at one))

pub run_none : (ns : List Nested) (stack : Pos) (factor : Float) (moved left : ℕ) (s : CursorState) → left ≡ 0 → run_of ns stack factor moved left s ≡ s
unfolding run_of
run_none ns stack factor moved left s z = rw z

-- ---- the last tick

module _ (ns : List Nested) (t : Float) (n : ℕ) (len : length ns ≡ n) where
  pub tracked_none : last_tick ns ≡ 0 → record { moved = n; end_time = t } ≡ tracking_of ns t
  unfolding tracking_of
  tracked_none z = simp (z, len)

  module _ (m : ℕ) (f : last_tick ns ≡ m + 1) (e : Nested) (g : e ≡ nested_in ns m) where
    pub tracked_moved : Ieee.lt t e.start ≡ true → record { moved = m; end_time = e.start } ≡ tracking_of ns t
    unfolding tracking_of moved_by
    tracked_moved h = let z : m + 1 - 1 ≡ m = omega arith in simp (f, ne_eqb (m + 1) 0 (omega arith), z, ← g, h)

    pub tracked_kept : Ieee.lt t e.start ≡ false → record { moved = n; end_time = t } ≡ tracking_of ns t
    unfolding tracking_of moved_by
    tracked_kept h = let z : m + 1 - 1 ≡ m = omega arith in simp (f, ne_eqb (m + 1) 0 (omega arith), z, ← g, h, len)
