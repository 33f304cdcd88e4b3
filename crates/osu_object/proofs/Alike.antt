-- Two objects, of one chart or of two, that agree in every field but the firsts and in their entries are the same object. Assumes nothing.
use Prim.Native.Nat.{ℕ, zero, suc, ◌+◌, ◌<◌}
use mathlib.Core.Path.{◌≡◌, refl, ap, ◌∙◌}
use mathlib.Core.List.{List}
use native.Mathlib.Omega.{arith}
use Rattle.chart_fields.specs.Objects.{fields_of}
use Rattle.chart_fields.specs.declared.Layout.{Layout}
use Rattle.chart_entries.specs.Entries.{nested_of, point_of}
use Rattle.chart_entries.specs.declared.Nested.{Nested}
use Rattle.chart_entries.specs.declared.Point.{Point}
use Rattle.osu_object.specs.Osu.{list_from, Object, object_of, osu_object, runs_of}
use Rattle.osu_object.specs.declared.OsuObject.{OsuObject}

pub list_same : {A : Type 0} (f g : ℕ → A) (i j n : ℕ) → ((k : ℕ) → k < n → f (i + k) ≡ g (j + k)) → list_from f i n ≡ list_from g j n
unfolding list_from
list_same f g i j zero h = refl
list_same {A} f g i j (suc n) h =
    let a : i ≡ i + 0 = omega arith in
    let b : j + 0 ≡ j = omega arith in
    let e : f i ≡ g j = ap f a ∙ h 0 (omega arith) ∙ ap g b in
    let t : list_from f (suc i) n ≡ list_from g (suc j) n =
    list_same f g (suc i) (suc j) n
    (λ k l.
    let p : suc i + k ≡ i + suc k = omega arith in
    let q : j + suc k ≡ suc j + k = omega arith in
    ap f p ∙ h (suc k) (omega arith) ∙ ap g q) in
    rw (e, t)

-- what the likeness of charts says of one object
pub record Alike (s : List ℕ) (lay : Layout) (i : ℕ) (t : List ℕ) (lat : Layout) (j : ℕ) : Type 0 where
  pub base : osu_object (fields_of s lay i) ≡ osu_object (fields_of t lat j)
  pub nested_count_lem : (fields_of s lay i).nested_count ≡ (fields_of t lat j).nested_count
  pub point_count_lem : (fields_of s lay i).point_count ≡ (fields_of t lat j).point_count
  pub nested : (k : ℕ) → k < (fields_of s lay i).nested_count → nested_of s lay ((fields_of s lay i).first_nested + k) ≡ nested_of t lat ((fields_of t lat j).first_nested + k)
  pub points : (k : ℕ) → k < (fields_of s lay i).point_count → point_of s lay ((fields_of s lay i).first_point + k) ≡ point_of t lat ((fields_of t lat j).first_point + k)

pub object_same : (s : List ℕ) (lay : Layout) (i : ℕ) (t : List ℕ) (lat : Layout) (j : ℕ) → Alike s lay i t lat j → object_of s lay i ≡ object_of t lat j
unfolding object_of runs_of
object_same s lay i t lat j a =
    let n = list_same (nested_of s lay) (nested_of t lat) (fields_of s lay i).first_nested (fields_of t lat j).first_nested (fields_of s lay i).nested_count a.nested in
    let p = list_same (point_of s lay) (point_of t lat) (fields_of s lay i).first_point (fields_of t lat j).first_point (fields_of s lay i).point_count a.points in
    let m : list_from (nested_of s lay) (fields_of s lay i).first_nested (fields_of s lay i).nested_count ≡ list_from (nested_of t lat) (fields_of t lat j).first_nested (fields_of t lat j).nested_count =
    n ∙ ap (λ (k : ℕ). list_from (nested_of t lat) (fields_of t lat j).first_nested k) a.nested_count_lem in
    let q : list_from (point_of s lay) (fields_of s lay i).first_point (fields_of s lay i).point_count ≡ list_from (point_of t lat) (fields_of t lat j).first_point (fields_of t lat j).point_count =
    p ∙ ap (λ (k : ℕ). list_from (point_of t lat) (fields_of t lat j).first_point k) a.point_count_lem in
    made a.base m q
  where
    made : {b d : OsuObject} {n m : List Nested} {p q : List Point} → b ≡ d → n ≡ m → p ≡ q
        → ◌≡◌ {A = Object} (record { base = b; nested = n; points = p }) (record { base = d; nested = m; points = q })
    made x y z = rw (x, y, z)
