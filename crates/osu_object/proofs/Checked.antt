-- A chart at which conditions 3 and 4 hold nowhere is ready: its sliders have their entries in the tables. Assumes nothing.
use Prim.Native.Nat.{ℕ, ◌+◌, ◌≤◌, ◌<◌}
use mathlib.Core.Path.{◌≡◌, refl, sym, ◌∙◌}
use mathlib.Core.Bool.{Bool, true, false, cond, not, ◌&&◌, ◌||◌, and-eq-true_iff}
use mathlib.Core.List.{List}
use lib.Dec.{leb, eqb}
use lib.IntN.{pos}
use lib.Ieee as Ieee
use lib.Ieee.{Float, binary64}
use native.Mathlib.Omega.{arith}
use borrow.Author.Tests.{leb-true, eqb-true, eq-eqb, not-false}
use Rattle.chart_fields.specs.Search.{first_below}
use Rattle.num_floats.specs.Numbers.{f64}
use Rattle.chart_fields.specs.Objects.{Holds, fields_of, time_ok, coordinate_ok, stack_ok, count_ok, plain_ok, slider_ok, kind_ok, fields_ok, bad_fields}
use Rattle.chart_fields.specs.declared.Fields.{Fields}
use Rattle.chart_fields.specs.declared.Layout.{Layout}
use Rattle.chart_entries.specs.Entries.{nested_bad, runs_ok, bad_entries}
use Rattle.osu_object.specs.Osu.{kind_of, runs_of, is_slider, Slides, Ready}
use Rattle.osu_object.specs.declared.OsuObjectKind.TheVariants.{Circle, Spinner, Slider}

-- a kind that is a slider's has the code 1
slider_code : (f : Fields) → is_slider (kind_of f) ≡ true → f.kind ≡ 1
unfolding kind_of
slider_code f = go f.end (Ieee.of_int binary64 (pos f.spans)) (eqb f.kind 0) (eqb f.kind 1) (eqb-true f.kind 1)
  where
    go : (x y : Float) (a b : Bool) → (b ≡ true → f.kind ≡ 1) → is_slider (cond a Circle (cond b (Slider x y) Spinner)) ≡ true → f.kind ≡ 1
    go x y true b h e = h (cc)
    go x y false true h e = h refl
    go x y false false h e = h e

or_false : (a : Bool) → (a || false) ≡ a
or_false true = refl
or_false false = refl

slider_fields : (f : Fields) → f.kind ≡ 1 → kind_ok f ≡ true → slider_ok f ≡ true
slider_fields f k e = sym (or_false (slider_ok f)) ∙ (rw k at e)

both : (a b : Bool) → (a && b) ≡ true → (a ≡ true) × (b ≡ true)
both a b = (and-eq-true_iff a b).0

record Counts (f : Fields) : Type 0 where
  nested : 1 ≤ f.nested_count
  points : 1 ≤ f.point_count

slider_counts : (f : Fields) → slider_ok f ≡ true → Counts f
slider_counts f e =
    let m = both (Ieee.le (f64 0x3F50624DD2F1A9FC) (Ieee.sub binary64 f.end f.start) && count_ok f.spans && count_ok f.nested_count && count_ok f.point_count) _ e in
    let p = both (Ieee.le (f64 0x3F50624DD2F1A9FC) (Ieee.sub binary64 f.end f.start) && count_ok f.spans && count_ok f.nested_count) (count_ok f.point_count) m.0 in
    let n = both (Ieee.le (f64 0x3F50624DD2F1A9FC) (Ieee.sub binary64 f.end f.start) && count_ok f.spans) (count_ok f.nested_count) p.0 in
    record {
      nested = leb-true 1 f.nested_count (both (leb 1 f.nested_count) (leb f.nested_count 1024) n.1).0;
      points = leb-true 1 f.point_count (both (leb 1 f.point_count) (leb f.point_count 1024) p.1).0;
    }

fields_kind : (f : Fields) → fields_ok f ≡ true → kind_ok f ≡ true
unfolding fields_ok
fields_kind f e =
    (both (time_ok f.start && time_ok f.end && coordinate_ok f.x && coordinate_ok f.y && stack_ok f.stack_x && stack_ok f.stack_y) (kind_ok f) e).1

-- an object's entries lie in the tables
pub record Within (lay : Layout) (f : Fields) : Type 0 where
  pub nested : f.first_nested + f.nested_count ≤ lay.nested
  pub points : f.first_point + f.point_count ≤ lay.points

runs_within : (s : List ℕ) (lay : Layout) (f : Fields) → runs_ok s lay f ≡ true → Within lay f
unfolding runs_ok
runs_within s lay f e =
    let n = leb (f.first_nested + f.nested_count) lay.nested in
    let p = leb (f.first_point + f.point_count) lay.points in
    let a = both (n && p && eqb (first_below (nested_bad s lay f.first_nested f.nested_count) f.nested_count) f.nested_count) _ e in
    let b = both (n && p) _ a.0 in
    let d = both n p b.0 in
    record { nested = leb-true _ _ d.0; points = leb-true _ _ d.1 }

second : (a b : Bool) → a ≡ true → (a && not b) ≡ false → b ≡ true
second true b h e = not-false b e
second false b h e = cc

entries_runs : (s : List ℕ) (lay : Layout) (i : ℕ) → (fields_of s lay i).kind ≡ 1 → bad_entries s lay i ≡ false → runs_ok s lay (fields_of s lay i) ≡ true
unfolding bad_entries
entries_runs s lay i k e = second (eqb (fields_of s lay i).kind 1) (runs_ok s lay (fields_of s lay i)) (eq-eqb _ _ k) e

fields_good : (s : List ℕ) (lay : Layout) (i : ℕ) → bad_fields s lay i ≡ false → fields_ok (fields_of s lay i) ≡ true
unfolding bad_fields
fields_good s lay i e = not-false _ e

-- no kind but a slider has entries
not_slider : (a b c p q s : Bool) → (a && b && p || false && s || c && q && p) ≡ true → p ≡ true
not_slider a b c true q s e = refl
not_slider true true true false true s e = e
not_slider true true true false false s e = e
not_slider true true false false q s e = e
not_slider true false true false true s e = e
not_slider true false true false false s e = e
not_slider true false false false q s e = e
not_slider false b true false true s e = e
not_slider false b true false false s e = e
not_slider false b false false q s e = e

plain_within : (lay : Layout) (f : Fields) → plain_ok f ≡ true → Within lay f
plain_within lay f e =
    let (five, _) = both (eqb f.spans 0 && eqb f.first_nested 0 && eqb f.nested_count 0 && eqb f.first_point 0 && eqb f.point_count 0) _ e in
    let (d, pc) = both (eqb f.spans 0 && eqb f.first_nested 0 && eqb f.nested_count 0 && eqb f.first_point 0) (eqb f.point_count 0) five in
    let (c, fp) = both (eqb f.spans 0 && eqb f.first_nested 0 && eqb f.nested_count 0) (eqb f.first_point 0) d in
    let (b, nc) = both (eqb f.spans 0 && eqb f.first_nested 0) (eqb f.nested_count 0) c in
    let (_, fn) = both (eqb f.spans 0) (eqb f.first_nested 0) b in
    let zn : f.first_nested ≡ 0 = eqb-true _ _ fn in
    let zc : f.nested_count ≡ 0 = eqb-true _ _ nc in
    let zp : f.first_point ≡ 0 = eqb-true _ _ fp in
    let zd : f.point_count ≡ 0 = eqb-true _ _ pc in
    record { nested = omega (arith, zn, zc); points = omega (arith, zp, zd) }

other_within : (lay : Layout) (f : Fields) → eqb f.kind 1 ≡ false → kind_ok f ≡ true → Within lay f
other_within lay f k e =
    plain_within lay f
    (not_slider (eqb f.kind 0) (Ieee.eq f.end f.start) (eqb f.kind 2) (plain_ok f) (Ieee.le f.start f.end) (slider_ok f) (rw k at e))

-- where conditions 3 and 4 do not hold of an object
pub entries_within : (s : List ℕ) (lay : Layout) (i : ℕ) → bad_fields s lay i ≡ false → bad_entries s lay i ≡ false → Within lay (fields_of s lay i)
entries_within s lay i three four = go (eqb (fields_of s lay i).kind 1) refl
  where
    go : (t : Bool) → eqb (fields_of s lay i).kind 1 ≡ t → Within lay (fields_of s lay i)
    go true k = runs_within s lay (fields_of s lay i) (entries_runs s lay i (eqb-true _ _ k) four)
    go false k = other_within lay (fields_of s lay i) k (fields_kind (fields_of s lay i) (fields_good s lay i three))

slides_of : (s : List ℕ) (lay : Layout) (f : Fields) → Holds s lay → Counts f → Within lay f → Slides s lay (runs_of f)
unfolding runs_of
slides_of s lay f h c w = record { holds = h; nested_in_lem = w.nested; nested_some = omega (arith, c.nested); points_in = w.points; points_some = omega (arith, c.points) }

-- conditions 3 and 4 hold at no place
pub ready : (s : List ℕ) (lay : Layout) → Holds s lay → ((i : ℕ) → i < lay.n → bad_fields s lay i ≡ false)
    → ((i : ℕ) → i < lay.n → bad_entries s lay i ≡ false) → Ready s lay
ready s lay h three four = record {
  holds = h;
  slides = λ i l k.
      let code = slider_code (fields_of s lay i) k in
      slides_of s lay (fields_of s lay i) h
      (slider_counts (fields_of s lay i) (slider_fields (fields_of s lay i) code (fields_kind (fields_of s lay i) (fields_good s lay i (three i l)))))
      (runs_within s lay (fields_of s lay i) (entries_runs s lay i code (four i l)));
}
