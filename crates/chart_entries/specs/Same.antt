-- Two lists that hold the same bytes hold the same nested entries and points there; condition 4 of an object reads nothing else. Assumes nothing.
use Rattle.std.specs.Prelude.{ℕ, ◌+◌, ◌-◌, ◌≤◌, ◌<◌, ◌≡◌, refl, Bool, true, false, ◌&&◌, List, leb}
use Rattle.std.proofs.Math.Path.{ap}
use Rattle.std.proofs.Math.Dec.{eqb}
use Rattle.std.proofs.Common.{arith, leb-true}
use Rattle.num_floats.specs.Same.{Same, shift, u32_same, f64_same, f32_same}
use Rattle.chart_fields.specs.Limits.{nested_size, point_size}
use Rattle.chart_fields.proofs.Search.{first_same}
use Rattle.chart_fields.specs.declared.Fields.{Fields}
use Rattle.chart_fields.specs.declared.Layout.{Layout}
use Rattle.chart_entries.specs.Entries.{nested_at, nested_of, point_at, point_of, in_time, nested_bad, length_ok, point_bad, runs_ok, wrong_entries}

pub nested_same : {a b : List ℕ} {p q n : ℕ} → Same a p b q n → nested_size ≤ n → nested_at a p ≡ nested_at b q
unfolding nested_at
nested_same s h =
    cc (
      f64_same s (omega arith),
      f32_same (shift s 8 4 (omega arith)) (omega arith),
      f32_same (shift s 12 4 (omega arith)) (omega arith),
      u32_same (shift s 16 4 (omega arith)) (omega arith),
      u32_same (shift s 20 4 (omega arith)) (omega arith),
    )

pub point_same : {a b : List ℕ} {p q n : ℕ} → Same a p b q n → point_size ≤ n → point_at a p ≡ point_at b q
unfolding point_at
point_same s h =
    cc (
      f32_same s (omega arith),
      f32_same (shift s 4 4 (omega arith)) (omega arith),
      f64_same (shift s 8 8 (omega arith)) (omega arith),
    )

-- two charts, each with a layout of its own, with the same entries as far as the counts go
pub record SameBelow (a : List ℕ) (la : Layout) (b : List ℕ) (lb : Layout) : Type 0 where
  pub nested_counts : la.nested ≡ lb.nested
  pub point_counts : la.points ≡ lb.points
  pub nested : (e : ℕ) → e < la.nested → nested_of a la e ≡ nested_of b lb e
  pub points : (e : ℕ) → e < la.points → point_of a la e ≡ point_of b lb e

module _ {a : List ℕ} {la : Layout} {b : List ℕ} {lb : Layout} (h : SameBelow a la b lb) where
  nested_bad_below : (first count k : ℕ) → first + count ≤ la.nested → k < count → nested_bad a la first count k ≡ nested_bad b lb first count k
  unfolding nested_bad in_time
  nested_bad_below first count k m l = cc (h.nested (first + k) (omega arith), h.nested (first + (k - 1)) (omega arith))

  point_bad_below : (first count k : ℕ) → first + count ≤ la.points → k < count → point_bad a la first k ≡ point_bad b lb first k
  unfolding point_bad length_ok
  point_bad_below first count k m l = cc (h.points (first + k) (omega arith), h.points (first + (k - 1)) (omega arith))

  -- the tests of the entries themselves are alike where the first two hold
  guarded : (n n' p p' x x' y y' : Bool) → n ≡ n' → p ≡ p' → (n ≡ true → x ≡ x') → (p ≡ true → y ≡ y') → (n && p && x && y) ≡ (n' && p' && x' && y')
  guarded true n' true p' x x' y y' e e' f g = cc (f refl, g refl)
  guarded true n' false p' x x' y y' e e' f g = cc
  guarded false n' p p' x x' y y' e e' f g = cc

  pub runs_below : (f : Fields) → runs_ok a la f ≡ runs_ok b lb f
  unfolding runs_ok
  runs_below f =
      guarded _ _ _ _ _ _ _ _
      (ap (leb (f.first_nested + f.nested_count)) h.nested_counts)
      (ap (leb (f.first_point + f.point_count)) h.point_counts)
      (λ e. ap (λ (n : ℕ). eqb n f.nested_count)
      (first_same _ _ f.nested_count (λ k l. nested_bad_below f.first_nested f.nested_count k (leb-true _ _ e) l)))
      (λ e. ap (λ (n : ℕ). eqb n f.point_count)
      (first_same _ _ f.point_count (λ k l. point_bad_below f.first_point f.point_count k (leb-true _ _ e) l)))

  pub wrong_below : (f : Fields) → wrong_entries a la f ≡ wrong_entries b lb f
  wrong_below f = simp (runs_below f)

-- two charts with the same entries under one layout
pub record SameEntries (a b : List ℕ) (lay : Layout) : Type 0 where
  pub nested : (e : ℕ) → nested_of a lay e ≡ nested_of b lay e
  pub points : (e : ℕ) → point_of a lay e ≡ point_of b lay e

pub wrong_same : {a b : List ℕ} {lay : Layout} → SameEntries a b lay → (f : Fields) → wrong_entries a lay f ≡ wrong_entries b lay f
wrong_same h = wrong_below (record { nested_counts = refl; point_counts = refl; nested = λ e _. h.nested e; points = λ e _. h.points e })
