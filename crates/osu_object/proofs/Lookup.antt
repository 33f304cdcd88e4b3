-- The lookup on a path, from what the calls of `on_path`, `beyond` and `position_at` answer. Assumes nothing.
use Prim.Native.Nat.{ℕ, ◌-◌}
use mathlib.Core.Path.{◌≡◌}
use mathlib.Core.Bool.{true, false}
use mathlib.Core.List.{List}
use lib.ListN.{length}
use lib.Ieee as Ieee
use lib.Ieee.{Float}
use borrow.Author.Tests.{eq-eqb, ne_eqb}
use Rattle.num_floats.specs.Numbers.{◌⊖◌, ◌⊗◌}
use Rattle.chart_entries.specs.declared.Point.{Point}
use Rattle.osu_object.specs.Osu.{point_in}
use Rattle.osu_object.specs.Path.{point_pos, segment_of, between, lookup_at, least_apart, ends_short, prolonged, lookup, whole_length, position_at}

-- ---- on the path as it is drawn

module _ (ps : List Point) (d : Float) (i : ℕ) (g : i ≡ segment_of ps d) (p1 : Point) (h : p1 ≡ point_in ps i) where
  pub path_first : i ≡ 0 → point_pos p1 ≡ lookup_at ps d (segment_of ps d)
  unfolding lookup_at
  path_first z = simp (← g, eq-eqb i 0 z, h)

  pub path_line : (p0 : Point) → p0 ≡ point_in ps (i - 1) → (i ≡ 0 → ⊥) → between p0 p1 d ≡ lookup_at ps d (segment_of ps d)
  unfolding lookup_at
  path_line p0 f z = simp (← g, ne_eqb i 0 z, h, f)

-- ---- beyond its end

module _ (ps : List Point) (d : Float) (n : ℕ) (e : length ps ≡ n) (p1 : Point) (h : p1 ≡ point_in ps (n - 1)) where
  pub only_point : n ≡ 1 → point_pos p1 ≡ prolonged ps d
  unfolding prolonged ends_short
  only_point z = simp (e, eq-eqb n 1 z, ← h)

  module _ (z : n ≡ 1 → ⊥) (p0 : Point) (f : p0 ≡ point_in ps (n - 2)) where
    pub too_near : Ieee.lt (p1.length ⊖ p0.length) least_apart ≡ true → point_pos p1 ≡ prolonged ps d
    unfolding prolonged ends_short
    too_near t = simp (e, ne_eqb n 1 z, ← h, ← f, t)

    pub last_line : Ieee.lt (p1.length ⊖ p0.length) least_apart ≡ false → between p0 p1 d ≡ prolonged ps d
    unfolding prolonged ends_short
    last_line t = simp (e, ne_eqb n 1 z, ← h, ← f, t)

-- ---- at a progress

module _ (ps : List Point) (stated s : Float) (n : ℕ) (e : length ps ≡ n) (last : Point) (h : last ≡ point_in ps (n - 1))
    (whole : Float) (w : whole ≡ whole_length stated last.length) where
  pub position_drawn : Ieee.le (s ⊗ whole) last.length ≡ true → lookup_at ps (s ⊗ whole) (segment_of ps (s ⊗ whole)) ≡ position_at ps stated s
  unfolding position_at lookup
  position_drawn t = simp (e, ← h, ← w, t)

  pub position_beyond : Ieee.le (s ⊗ whole) last.length ≡ false → prolonged ps (s ⊗ whole) ≡ position_at ps stated s
  unfolding position_at lookup
  position_beyond t = simp (e, ← h, ← w, t)
